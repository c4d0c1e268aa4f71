use Rattle.std.proofs.Common.{◌≡◌, ◌∙◌, ap, sym, refl, true, false, [], ◌∷◌, ◌++◌, drop, get_or, map, string_bytes, append_assoc}
use Rattle.std.proofs.lemmas.List.{drop_all, drop_more}
use Rattle.serde_json.specs.View.{items_of}
use Rattle.serde_json.specs.Written.{items_text}
use Rattle.dl_server.specs.AnswerJson.{count_tree}
use Rattle.dl_server.proofs.ListTexts.{text_next}
use Rattle.dl_server.proofs.answer_json.push_rounds.Goals as goal

pub loop-count-init : goal.loop-count-init
loop-count-init c =
    let rest = items_text false (items_of (map count_tree c.args.rounds.now)) in
    (false, refl, ap (λ s. s ++ rest) c.in_ok-push_str.ensures.bytes ∙ append_assoc (string_bytes c.args.out.now) (91 ∷ []) rest)

pub loop-count-preserved : goal.loop-count-preserved
loop-count-preserved c =
    let h = c.loop-count.invariant in
    let rounds = c.args.rounds.now in
    let place = c.loop-count.count-index in (
      true,
      refl,
      text_next count_tree rounds place (get_or rounds place 0) (drop_more rounds place 0 c.loop-count-test.true) h.0 _ _ _ _ h.2
          (c.in_ok-push_str-2.ensures.bytes ∙ ap (λ s. string_bytes c.loop-count.out ++ s) h.1) c.in_ok-write.ensures.bytes,
    )

pub returns : goal.returns
returns c =
    let h = c.loop-count.invariant in
    let rounds = c.args.rounds.now in
    let none : drop c.loop-count.count-index rounds ≡ [] = drop_all c.loop-count.count-index rounds c.loop-count-test.false in
    c.in_ok-push_str-3.ensures.bytes
    ∙ (ap (λ ys. string_bytes c.loop-count.out ++ items_text h.0 (items_of (map count_tree ys))) (sym none) ∙ h.2)
