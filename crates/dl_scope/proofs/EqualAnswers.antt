-- Reports of plans that evaluate the same terms have the same answers, where the tables alone give them.
use Rattle.std.proofs.Common.{◌≡◌, ◌∙◌, ap, sym, subst, refl, ℕ, suc, ◌<◌, List, [], ◌∷◌, ◌++◌, length, map, Option, Some, None, option_map, slice_get, arith}
use Rattle.std.proofs.lemmas.List.{length-map, map-append}
use Rattle.std.proofs.lemmas.Option.{same_Some, slice_get-map}
use Rattle.dl_history.specs.Agreement.{entries_of}
use Rattle.dl_history.specs.Lists.{Every}
use Rattle.dl_history.proofs.ListLemmas.{every_weaker}
use Rattle.dl_source.specs.Tables.{Tables}
use Rattle.dl_terms.specs.Tree.{Tree}
use Rattle.dl_terms.specs.View.{term_view}
use Rattle.dl_terms.specs.declared.answer.Answer.{Answer}
use Rattle.dl_terms.specs.declared.plan.Plan.{Plan}
use Rattle.dl_terms.specs.declared.plan.Step.{Step}
use Rattle.dl_terms.specs.declared.plan.Step.TheVariants.{Eval}
use Rattle.dl_haxl.specs.PlanEntries.{Stretch, stretch, step_answer, IsStep, AreSteps}
use Rattle.dl_haxl.specs.declared.step_answers.StepAnswer.{StepAnswer}
use Rattle.dl_scope.specs.EqualAnswers.{evaluated, evaluations, RestsOnTables, AnswersAreEqual}
use Rattle.dl_scope.specs.OwnAnswers.{IsOwn, listed, AnswersByTables, OwnAnswersAreOne}
use Rattle.dl_scope.specs.Report.{Report}
use Rattle.dl_scope.proofs.CallersCalls.{some_at, some_low}
use Rattle.dl_scope.proofs.OwnAnswers.{answers_are_own}

-- ---- the numbers of the steps that have an answer

abbrev steps_of : List StepAnswer → List ℕ
steps_of answers = map (λ (a : StepAnswer). a.step) answers

abbrev place_of : ℕ → Option Tree → List ℕ
place_of n None = []
place_of n (Some t) = n ∷ []

-- the places, counted from n, at which a term is evaluated
abbrev places_from : ℕ → List (Option Tree) → List ℕ
places_from n [] = []
places_from n (e ∷ es) = place_of n e ++ places_from (suc n) es

step_numbered : (caller number : ℕ) (step : Step) (s : Stretch) → IsStep caller number step s → steps_of s.answers ≡ place_of number (evaluated step)
step_numbered caller number (Eval term) s (a, answers, evaluates) = ap (λ (as_given : List StepAnswer). steps_of as_given) answers
step_numbered caller number step s (at, reply, is) = ap (λ (x : Stretch). steps_of x.answers) is

steps_numbered : (caller number : ℕ) (steps : List Step) (s : Stretch) → AreSteps caller number steps s
    → steps_of s.answers ≡ places_from number (map evaluated steps)
steps_numbered caller number [] s is = ap (λ (x : Stretch). steps_of x.answers) is
steps_numbered caller number (step ∷ steps) s (own, rest, is, one, others) =
    ap (λ (x : Stretch). steps_of x.answers) is
    ∙ (map-append (λ (a : StepAnswer). a.step) own.answers rest.answers
    ∙ (ap (λ (ns : List ℕ). ns ++ steps_of rest.answers) (step_numbered caller number step own one)
    ∙ ap (λ (ns : List ℕ). place_of number (evaluated step) ++ ns) (steps_numbered caller (suc number) steps rest others)))

-- ---- answers at the same places

-- the answer is that of the term at its place, by the tables alone
abbrev AnswersPlace : Tables → List (Option Tree) → StepAnswer → Type 0
AnswersPlace tables es given = (t : Tree) × (slice_get es given.step ≡ Some (Some t)) × IsOwn (listed tables) t given.answer

placed : (tables : Tables) (plan : Plan) (given : StepAnswer) → AnswersByTables tables plan given → AnswersPlace tables (evaluations plan) given
placed tables plan given (term, at, own) =
    (term_view term, slice_get-map evaluated plan.steps.items given.step ∙ ap (λ (o : Option Step). option_map evaluated o) at, own)

same_answer : OwnAnswersAreOne → (tables : Tables) (es : List (Option Tree)) (x y : StepAnswer) → AnswersPlace tables es x → AnswersPlace tables es y
    → x.step ≡ y.step → x ≡ y
same_answer unique tables es x y (t, at, own) (u, also, other) step =
    let here : slice_get es y.step ≡ Some (Some t) = subst (λ (n : ℕ). slice_get es n ≡ Some (Some t)) step at in
    let tree : t ≡ u = same_Some t u (same_Some (Some t) (Some u) (sym here ∙ also)) in
    let answer : x.answer ≡ y.answer = unique tables u x.answer y.answer (subst (λ (v : Tree). IsOwn (listed tables) v x.answer) tree own) other in
    ap (λ (n : ℕ). step_answer n x.answer) step ∙ ap (λ (a : Answer). step_answer y.step a) answer

same_answers : OwnAnswersAreOne → (tables : Tables) (es : List (Option Tree)) (xs ys : List StepAnswer) → Every (AnswersPlace tables es) xs
    → Every (AnswersPlace tables es) ys → steps_of xs ≡ steps_of ys → xs ≡ ys
same_answers unique tables es [] [] each also numbers = refl
same_answers unique tables es [] (y ∷ ys) each also numbers = absurd (let bad : ◌≡◌ {A = List ℕ} [] (y.step ∷ steps_of ys) = numbers in cc)
same_answers unique tables es (x ∷ xs) [] each also numbers = absurd (let bad : ◌≡◌ {A = List ℕ} (x.step ∷ steps_of xs) [] = numbers in cc)
same_answers unique tables es (x ∷ xs) (y ∷ ys) (each, others) (also, more) numbers =
    let both : ◌≡◌ {A = List ℕ} (x.step ∷ steps_of xs) (y.step ∷ steps_of ys) = numbers in
    let step : x.step ≡ y.step = cc in
    let rest : steps_of xs ≡ steps_of ys = cc in
    ap (λ (z : StepAnswer). z ∷ xs) (same_answer unique tables es x y each also step)
    ∙ ap (λ (zs : List StepAnswer). y ∷ zs) (same_answers unique tables es xs ys others more rest)

-- ---- one plan of a report

module _ (tables : Tables) (plans : List Plan) (r : Report) (rests : RestsOnTables tables plans r) (n : ℕ) (plan : Plan) (answers : List StepAnswer)
    (at : slice_get plans n ≡ Some plan) (given : slice_get r.answers n ≡ Some answers) where
  plan_numbered : steps_of answers ≡ places_from 0 (evaluations plan)
  plan_numbered =
      let low : n < length plans = some_low plans n plan at in
      let rounds = some_at r.rounds n (omega (arith, rests.headline.rounds_each, low)) in
      let follows = rests.headline.follow n plan answers rounds.0 at given rounds.1 in
      steps_numbered n 0 plan.steps.items (stretch (entries_of n r.history.accounts) answers rounds.0 follows.0) follows.1

  plan_placed : Every (AnswersPlace tables (evaluations plan)) answers
  plan_placed =
      every_weaker (AnswersByTables tables plan) (AnswersPlace tables (evaluations plan)) answers (placed tables plan)
      (answers_are_own tables rests.setup plans r rests.headline rests.unfailed rests.unprimed n plan answers at given)

-- ---- all plans

same_lists : {X : Type 0} (xs ys : List X) → length xs ≡ length ys
    → ((n : ℕ) (x y : X) → slice_get xs n ≡ Some x → slice_get ys n ≡ Some y → x ≡ y) → xs ≡ ys
same_lists [] [] size each = refl
same_lists [] (y ∷ ys) size each = absurd (omega (arith, size))
same_lists (x ∷ xs) [] size each = absurd (omega (arith, size))
same_lists {X} (x ∷ xs) (y ∷ ys) size each =
    ap (λ (z : X). z ∷ xs) (each 0 x y refl refl)
    ∙ ap (λ (zs : List X). y ∷ zs) (same_lists xs ys (omega (arith, size)) (λ n v w at also. each (suc n) v w at also))

evaluated_at : (plans : List Plan) (n : ℕ) (plan : Plan) → slice_get plans n ≡ Some plan → slice_get (map evaluations plans) n ≡ Some (evaluations plan)
evaluated_at plans n plan at = slice_get-map evaluations plans n ∙ ap (λ (o : Option Plan). option_map evaluations o) at

pub answers_are_equal : OwnAnswersAreOne → AnswersAreEqual
answers_are_equal unique tables plans others r s same rests also =
    let plans_each : length plans ≡ length others =
    sym (length-map plans evaluations) ∙ (ap (λ (ls : List (List (Option Tree))). length ls) same ∙ length-map others evaluations) in
    let size : length r.answers ≡ length s.answers = rests.headline.answers_each ∙ (plans_each ∙ sym also.headline.answers_each) in
    same_lists r.answers s.answers size (λ n xs ys at there.
    let low : n < length r.answers = some_low r.answers n xs at in
    let p = some_at plans n (omega (arith, rests.headline.answers_each, low)) in
    let q = some_at others n (omega (arith, rests.headline.answers_each, plans_each, low)) in
    let es : evaluations p.0 ≡ evaluations q.0 =
    same_Some (evaluations p.0) (evaluations q.0)
    (sym (evaluated_at plans n p.0 p.1) ∙ (ap (λ (ls : List (List (Option Tree))). slice_get ls n) same ∙ evaluated_at others n q.0 q.1)) in
    same_answers unique tables (evaluations p.0) xs ys (plan_placed tables plans r rests n p.0 xs p.1 at)
    (subst (λ (fs : List (Option Tree)). Every (AnswersPlace tables fs) ys) (sym es) (plan_placed tables others s also n q.0 ys q.1 there))
    (plan_numbered tables plans r rests n p.0 xs p.1 at
    ∙ (ap (λ (fs : List (Option Tree)). places_from 0 fs) es ∙ sym (plan_numbered tables others s also n q.0 ys q.1 there))))
