-- A plan file of an earlier version and the migrated one have the same answers.
use Rattle.std.proofs.Common.{◌≡◌, ◌∙◌, sym, ap, subst, refl, List, [], ◌∷◌, length, map, Option, Some, None}
use Rattle.dl_values.specs.Answering.{by_function}
use Rattle.dl_documents.specs.Steps.{StepTree, prime, eval, step_view, plan_view}
use Rattle.dl_documents.proofs.OneReading.{SayTheSame, one_plan_file}
use Rattle.dl_history.specs.Lists.{Every}
use Rattle.dl_migration.specs.Migrated.{migrated, number_of}
use Rattle.dl_migration.specs.LaterVersion.{in_later_version}
use Rattle.dl_migration.proofs.LaterVersion.{migrated_is_the_same}
use Rattle.dl_source.specs.Answer.{answer_of}
use Rattle.dl_source.specs.Tables.{Tables}
use Rattle.dl_scope.specs.EqualAnswers.{evaluated, evaluations, AnswersAreEqual}
use Rattle.dl_scope.specs.Setup.{service_of}
use Rattle.dl_scope.specs.Headline.{Headline}
use Rattle.dl_scope.specs.OwnAnswers.{PrimesNoKey}
use Rattle.dl_terms.specs.Tree.{Tree}
use Rattle.dl_terms.specs.declared.plan.Plan.{Plan}
use Rattle.dl_terms.specs.declared.plan.Step.{Step}
use Rattle.dl_terms.specs.declared.plan.Step.TheVariants.{Prime, Eval}
use Rattle.dl_plans.specs.JoinedTables.{joined}
use Rattle.dl_plans.specs.Run.{setup_of}
use Rattle.dl_plans.specs.MigratedAnswers.{MigratedAnswersAreEqual}

-- ---- what the tree of a step tells

abbrev tree_evaluated : StepTree → Option Tree
tree_evaluated (eval t) = Some t
tree_evaluated tree = None

step_evaluated : (s : Step) → evaluated s ≡ tree_evaluated (step_view s)
step_evaluated (Eval t) = refl
step_evaluated s = refl

abbrev TreePrimesNoKey : StepTree → Type 0
TreePrimesNoKey (prime k o) = ⊥
TreePrimesNoKey tree = Unit {0}

tree_unprimed : (s : Step) → PrimesNoKey s → TreePrimesNoKey (step_view s)
tree_unprimed (Prime k o) none = none
tree_unprimed s none = none

step_unprimed : (s : Step) → TreePrimesNoKey (step_view s) → PrimesNoKey s
step_unprimed (Prime k o) none = none
step_unprimed s none = none

-- ---- the trees of steps and of plans

-- what is made of each element is made of what the element is seen as
map_seen : {X Y Z : Type 0} (see : X → Y) (f : X → Z) (g : Y → Z) → ((x : X) → f x ≡ g (see x)) → (xs : List X) → map f xs ≡ map g (map see xs)
map_seen see f g each [] = refl
map_seen {X} {Y} {Z} see f g each (x ∷ xs) =
    ap (λ (z : Z). z ∷ map f xs) (each x) ∙ ap (λ (zs : List Z). g (see x) ∷ zs) (map_seen see f g each xs)

module _ {X Y : Type 0} (see : X → Y) (P : X → Type 0) (Q : Y → Type 0) where
  every_seen : ((x : X) → P x → Q (see x)) → (xs : List X) → Every P xs → Every Q (map see xs)
  every_seen each [] all = tt
  every_seen each (x ∷ xs) all = (each x all.0, every_seen each xs all.1)

  every_unseen : ((x : X) → Q (see x) → P x) → (xs : List X) → Every Q (map see xs) → Every P xs
  every_unseen each [] all = tt
  every_unseen each (x ∷ xs) all = (each x all.0, every_unseen each xs all.1)

abbrev PlanPrimesNoKey : Plan → Type 0
PlanPrimesNoKey plan = Every PrimesNoKey plan.steps.items

plans_evaluated : (plans others : List Plan) → map plan_view plans ≡ map plan_view others → map evaluations plans ≡ map evaluations others
plans_evaluated plans others same =
    let seen : (p : Plan) → evaluations p ≡ map tree_evaluated (plan_view p) =
    λ p. map_seen step_view evaluated tree_evaluated step_evaluated p.steps.items in
    map_seen plan_view evaluations (map tree_evaluated) seen plans
    ∙ (ap (λ (ps : List (List StepTree)). map (map tree_evaluated) ps) same ∙ sym (map_seen plan_view evaluations (map tree_evaluated) seen others))

plans_unprimed : (plans others : List Plan) → map plan_view plans ≡ map plan_view others → Every PlanPrimesNoKey plans → Every PlanPrimesNoKey others
plans_unprimed plans others same none =
    every_unseen plan_view PlanPrimesNoKey (Every TreePrimesNoKey)
    (λ p all. every_unseen step_view PrimesNoKey TreePrimesNoKey step_unprimed p.steps.items all) others
    (subst (λ (ps : List (List StepTree)). Every (λ (steps : List StepTree). Every TreePrimesNoKey steps) ps) same
    (every_seen plan_view PlanPrimesNoKey (Every TreePrimesNoKey)
    (λ p all. every_seen step_view PrimesNoKey TreePrimesNoKey tree_unprimed p.steps.items all) plans none))

-- ---- answers

pub migrated_answers_are_equal : AnswersAreEqual → MigratedAnswersAreEqual
migrated_answers_are_equal equal target d first second spelled earlier migrated_spelled none options others database r s of_first of_second =
    let same : SayTheSame (in_later_version first) second =
    one_plan_file (migrated (number_of target) d) (in_later_version first) second (migrated_is_the_same target d first spelled earlier) migrated_spelled in
    let tables : joined second.tables others.database ≡ joined first.tables options.database =
    ap (λ (ts : Tables). joined ts others.database) (sym same.tables) ∙ ap (joined first.tables) (sym database) in
    equal (joined first.tables options.database) first.plans.items second.plans.items r s (plans_evaluated first.plans.items second.plans.items same.plans)
    (record { setup = setup_of options first; headline = of_first.headline; unfailed = of_first.unfailed; unprimed = none })
    (record {
      setup = setup_of others second;
      headline = subst (λ (ts : Tables). Headline (service_of (setup_of others second) (length second.plans.items) (by_function (answer_of ts)))
          second.plans.items s) tables of_second.headline;
      unfailed = of_second.unfailed;
      unprimed = plans_unprimed first.plans.items second.plans.items same.plans none;
    })
