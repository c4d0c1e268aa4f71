use Rattle.std.proofs.Common.{◌≡◌, ◌∙◌, ap, sym, refl, true, false, ℕ, List, [], ◌++◌, drop, map, string_bytes}
use Rattle.std.proofs.lemmas.List.{drop_all}
use Rattle.serde_json.specs.View.{items_of}
use Rattle.serde_json.specs.Written.{compact_text, items_text}
use Rattle.dl_haxl.specs.declared.step_answers.StepAnswer.{StepAnswer}
use Rattle.dl_server.specs.AnswerJson.{answers_tree, rounds_tree}
use Rattle.dl_server.proofs.ListTexts.{front_of, plan_tree, report_written, text_next}
use Rattle.dl_server.proofs.answer_json.report_json.Goals as goal

pub loop-answers-init : goal.loop-answers-init
loop-answers-init c = (false, refl, ap (λ s. s ++ items_text false (items_of (map plan_tree c.answers-plans.result.now))) c.in_ok-out.ensures.ok)

pub loop-answers-preserved : goal.loop-answers-preserved
loop-answers-preserved c =
    let h = c.loop-answers.invariant in
    let plans = c.answers-plans.result.now in
    let place = c.loop-answers.answers-index in
    let answers = c.answers-item.result in (
      true,
      refl,
      text_next plan_tree plans place answers (front_of plans place answers c.loop-answers-test.true c.answers-item.is) h.0 _ _ _ _ h.2
          (c.in_ok-push_str.ensures.bytes ∙ ap (λ s. string_bytes c.loop-answers.out ++ s) h.1)
          (c.in_ok-push_answers.ensures ∙ ap (λ (ys : List StepAnswer). string_bytes c.push_str.new.self ++ compact_text (answers_tree ys)) c.as_slice.ensures.value),
    )

pub returns : goal.returns
returns c =
    let h = c.loop-answers.invariant in
    let plans = c.answers-plans.result.now in
    let none : drop c.loop-answers.answers-index plans ≡ [] = drop_all c.loop-answers.answers-index plans c.loop-answers-test.false in
    report_written c.args.report.now plans (string_bytes c.loop-answers.out) _ _ _ c.answers-plans.ensures
    (ap (λ ys. string_bytes c.loop-answers.out ++ items_text h.0 (items_of (map plan_tree ys))) (sym none) ∙ h.2) c.in_ok-push_str-2.ensures.bytes
    (c.in_ok-push_rounds.ensures ∙ ap (λ (ns : List ℕ). string_bytes c.push_str-2.new.self ++ compact_text (rounds_tree ns)) c.rounds.ensures)
    c.in_ok-push_str-3.ensures.bytes
