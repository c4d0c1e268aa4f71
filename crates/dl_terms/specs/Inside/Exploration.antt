-- What a round makes of the parts of a term, and of loads.
use Rattle.std.specs.Prelude.{◌≡◌, List, [], Option, Some, None, MatchOption}
use Rattle.serde_json.specs.Data.{Data, Items}
use Rattle.dl_values.specs.Key.{Key}
use Rattle.dl_values.specs.declared.outcome.Outcome.{Outcome}
use Rattle.dl_terms.specs.declared.answer.Answer.{Answer}
use Rattle.dl_terms.specs.declared.answer.EvalFault.TheVariants as why
use Rattle.dl_terms.specs.declared.node.Frame.{Frame}
use Rattle.dl_terms.specs.declared.node.Node.{Node}
use Rattle.dl_terms.specs.Tree.{Tree, ended, Trees}
use Rattle.dl_terms.specs.TermAnswers.{Joint, joined, answer, answers, all_wait, copy_answers, copy_waits, answer_at, answers_at, waits_at, all_wait_at, waits}
use Rattle.dl_terms.specs.TermAnswers.{Target, target_answer, target_answers, target_waits, each_target_waits}
use Rattle.dl_terms.specs.TermAnswers.{Targets, targets_answer, targets_waits}
use Rattle.dl_terms.specs.Rounds.{KnowsMore}
use Rattle.dl_terms.specs.Node.{in_frame, joined_tree, node_view, result_of, results_of}
use Rattle.dl_terms.specs.Reduction.{Stands, Reduces}

-- the same of several trees
pub record StandAll (p : Key → Option Outcome) (say : (Key → Option Outcome) → Option (List Answer))
    (lack : (Key → Option Outcome) → List Key) (us : Trees) : Type 0 where
  pub meaning : (q : Key → Option Outcome) → KnowsMore p q → answers q us ≡ say q
  pub waiting : (q : Key → Option Outcome) → KnowsMore p q → all_wait q us ≡ lack q
  pub ending : results_of us ≡ say p

-- each of the trees stands for its own
abbrev pub ReduceAll : (Key → Option Outcome) → Trees → Trees → Type 0
ReduceAll p ts us = StandAll p (λ q. answers q ts) (λ q. all_wait q ts) us

-- u stands for the load of a target, or of several
abbrev pub LoadsTarget : (Key → Option Outcome) → Target → Tree → Type 0
LoadsTarget p x u = Stands p (λ q. target_answer q x) (λ q. target_waits q x) u

abbrev pub LoadsEach : (Key → Option Outcome) → List Target → Trees → Type 0
LoadsEach p xs us = StandAll p (λ q. target_answers q xs) (λ q. each_target_waits q xs) us

abbrev pub LoadsTargets : (Key → Option Outcome) → Targets → Tree → Type 0
LoadsTargets p x u = Stands p (λ q. targets_answer q x) (λ q. targets_waits q x) u

-- u is what parts that a round has just left as vs answer together, where all have ended, and else the same form over them
abbrev pub JoinsOn : Joint → Trees → Tree → Type 0
JoinsOn j vs u = MatchOption (results_of vs) (u ≡ joined_tree j vs) (λ ls. u ≡ ended (joined j ls))

-- u answers and waits, if p and perhaps more is known, as t does with the item i
abbrev pub StandsAt : (Key → Option Outcome) → Option Data → Tree → Tree → Type 0
StandsAt p i t u = Stands p (λ q. answer_at q i t) (λ q. waits_at q i t) u

abbrev pub AllStandAt : (Key → Option Outcome) → Option Data → Trees → Trees → Type 0
AllStandAt p i ts us = StandAll p (λ q. answers_at q i ts) (λ q. all_wait_at q i ts) us

-- the trees stand for the copies of a body, one for each item
abbrev pub CopiesStand : (Key → Option Outcome) → Tree → Items → Trees → Type 0
CopiesStand p body ds us = StandAll p (λ q. copy_answers (λ d. answer_at q (Some d) body) ds) (λ q. copy_waits (λ d. waits_at q (Some d) body) ds) us

-- a tree that has its answer, if p suffices for one
abbrev pub IsSettled : (Key → Option Outcome) → Tree → Type 0
IsSettled p t = result_of t ≡ answer p t

-- what waits in a frame once its part has ended, if it has
abbrev pub frame_waits : (Key → Option Outcome) → Frame → Option Answer → List Key
frame_waits p f None = []
frame_waits p f (Some a) = waits p (in_frame f (ended a))

-- A round has left v in the place of t, and answered with another node, or with none: the other one stands for t, or v does.
abbrev pub Becomes : (Key → Option Outcome) → Tree → Tree → Option Node → Type 0
Becomes p t v other = MatchOption other (Reduces p t v) (λ n. Reduces p t (node_view n))

-- the target of an id in a table, where it is a key
abbrev pub target_of : Option Key → Target
target_of None = Target.none why.NotAKey
target_of (Some k) = Target.key k
