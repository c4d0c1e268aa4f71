-- What threads give back, put together one after another.
use Rattle.std.proofs.Common.{◌≡◌, ◌∙◌, ap, sym, subst, ℕ, List, [], ◌∷◌, ◌++◌, map, Ok}
use Rattle.std.specs.Prelude.{Vec}
use Rattle.std.proofs.lemmas.List.{map-append}
use Rattle.std.specs.declared.alloc.Global.{Global}
use Rattle.dl_scope.specs.Inside.ThreadResults.{AllGave, Gave}
use Rattle.dl_scope.specs.declared.threads.runs.PlanRun.{PlanRun}
use Rattle.dl_haxl.specs.declared.step_answers.StepAnswer.{StepAnswer}
use Rattle.dl_haxl.specs.declared.step_answers.StepAnswers.{StepAnswers}

module _ {L : Type 0} where
  gave_next : (runs : List (PlanRun L)) (run : PlanRun L) (answers : List (List StepAnswer)) (a : List StepAnswer) (rounds : List ℕ) (n : ℕ)
      → AllGave runs answers rounds → Gave run a n → AllGave (runs ++ run ∷ []) (answers ++ a ∷ []) (rounds ++ n ∷ [])
  gave_next [] run [] a [] n gave one = (one, tt)
  gave_next (r ∷ runs) run (b ∷ answers) a (m ∷ rounds) n (first, others) one = (first, gave_next runs run answers a rounds n others one)
  gave_next [] run (b ∷ answers) a rounds n gave one = absurd gave
  gave_next [] run [] a (m ∷ rounds) n gave one = absurd gave
  gave_next (r ∷ runs) run [] a rounds n gave one = absurd gave
  gave_next (r ∷ runs) run (b ∷ answers) a [] n gave one = absurd gave

  -- one plan more
  pub gave_more : (runs : List (PlanRun L)) (run : PlanRun L) (now new : List (Vec StepAnswer Global))
      (a : Vec StepAnswer Global) (rounds more : List ℕ) (n : ℕ)
      (given : StepAnswers) → AllGave runs (map (λ (v : Vec StepAnswer Global). v.items) now) rounds → run.given ≡ Ok given
      → given.answers ≡ a → given.rounds ≡ n → new ≡ now ++ a ∷ [] → more ≡ rounds ++ n ∷ []
      → AllGave (runs ++ run ∷ []) (map (λ (v : Vec StepAnswer Global). v.items) new) more
  gave_more runs run now new a rounds more n given gave is answers count push push2 =
      let f : Vec StepAnswer Global → List StepAnswer = λ v. v.items in
      let all : map f new ≡ map f now ++ a.items ∷ [] = ap (map f) push ∙ map-append f now (a ∷ []) in
      let one : Gave run a.items n = (given, is, ap f answers, count) in
      subst (λ ns. AllGave (runs ++ run ∷ []) (map f new) ns) (sym push2)
      (subst (λ as_lists. AllGave (runs ++ run ∷ []) as_lists (rounds ++ n ∷ [])) (sym all) (gave_next runs run (map f now) a.items rounds n gave one))
