use Rattle.std.proofs.Common.{◌≡◌, ◌∙◌, ap, sym, refl, true, false, [], ◌∷◌, ◌++◌, drop, map, string_bytes, append_assoc}
use Rattle.std.proofs.lemmas.List.{drop_all}
use Rattle.serde_json.specs.View.{items_of}
use Rattle.serde_json.specs.Written.{items_text}
use Rattle.dl_server.specs.AnswerJson.{answer_tree}
use Rattle.dl_server.proofs.ListTexts.{front_of, text_next}
use Rattle.dl_server.proofs.answer_json.push_answers.Goals as goal

pub loop-given-init : goal.loop-given-init
loop-given-init c =
    let rest = items_text false (items_of (map answer_tree c.args.answers.now)) in
    (false, refl, ap (λ s. s ++ rest) c.in_ok-push_str.ensures.bytes ∙ append_assoc (string_bytes c.args.out.now) (91 ∷ []) rest)

pub loop-given-preserved : goal.loop-given-preserved
loop-given-preserved c =
    let h = c.loop-given.invariant in
    let answers = c.args.answers.now in
    let place = c.loop-given.given-index in
    let given = c.given-item.result in (
      true,
      refl,
      text_next answer_tree answers place given (front_of answers place given c.loop-given-test.true c.given-item.is) h.0 _ _ _ _ h.2
          (c.in_ok-push_str-2.ensures.bytes ∙ ap (λ s. string_bytes c.loop-given.out ++ s) h.1) c.in_ok-push_answer.ensures,
    )

pub returns : goal.returns
returns c =
    let h = c.loop-given.invariant in
    let answers = c.args.answers.now in
    let none : drop c.loop-given.given-index answers ≡ [] = drop_all c.loop-given.given-index answers c.loop-given-test.false in
    c.in_ok-push_str-3.ensures.bytes
    ∙ (ap (λ ys. string_bytes c.loop-given.out ++ items_text h.0 (items_of (map answer_tree ys))) (sym none) ∙ h.2)
