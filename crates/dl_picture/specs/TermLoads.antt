-- How many loads the terms of plans ask for, each as often as it appears in its term. Without a loader, each is a fetch.
use Rattle.std.specs.Prelude.{ℕ, ◌+◌, List, [], ◌∷◌, flat_map, map, Option, Some, None, option_and_then, is_some, if◌then◌else◌, Vec}
use Rattle.std.specs.Map.{lookup}
use Rattle.std.specs.declared.alloc.Global.{Global}
use Rattle.indexmap.specs.IndexMap.{insert_entry}
use Rattle.dl_values.specs.Key.{Key, key_eq}
use Rattle.dl_values.specs.declared.outcome.Outcome.{Outcome}
use Rattle.dl_desk.specs.Events.{outcome}
use Rattle.dl_desk.specs.declared.event.Call.{Call}
use Rattle.dl_desk.specs.declared.event.Call.TheVariants.{LoadMany}
use Rattle.dl_desk.specs.declared.event.Event.{Event}
use Rattle.dl_desk.specs.declared.event.Reply.{Reply}
use Rattle.dl_desk.specs.declared.event.Reply.TheVariants.{Many}
use Rattle.dl_desk.specs.declared.reply.LoadReply.{LoadReply}
use Rattle.dl_history.specs.Entries.{cell_of_load}
use Rattle.dl_history.specs.History.{past}
use Rattle.dl_picture.specs.Numbers.{round_events}
use Rattle.serde_json.specs.Data.{Data, Items, no_items, item}
use Rattle.dl_terms.specs.Tree.{Tree, ended, load, pick, follow, each, all, over, the_item, named, Trees, no_trees, tree}
use Rattle.dl_terms.specs.TermAnswers.{answer, answer_at, Listed, listed, picked, Target, target_in, Targets, targets_in}
use Rattle.dl_terms.specs.View.{term_view}
use Rattle.dl_terms.specs.declared.answer.Answer.{Answer}
use Rattle.dl_terms.specs.declared.plan.Plan.{Plan}
use Rattle.dl_terms.specs.declared.plan.Step.{Step}
use Rattle.dl_terms.specs.declared.plan.Step.TheVariants.{Prime, Clear, ClearAll, Eval}
use Rattle.dl_terms.specs.declared.term.Term.{Term}

-- ---- a term

-- a key is one load, and a fault in its place is none
abbrev pub target_loads : Target → ℕ
target_loads (Target.key k) = 1
target_loads (Target.none f) = 0

abbrev pub each_loads : List Target → ℕ
each_loads [] = 0
each_loads (x ∷ xs) = target_loads x + each_loads xs

abbrev pub targets_loads : Targets → ℕ
targets_loads (Targets.keys xs) = each_loads xs
targets_loads (Targets.none f) = 0

-- what comes after a part asks for nothing while the part waits
abbrev pub loads_after : Option Answer → (Answer → ℕ) → ℕ
loads_after None next = 0
loads_after (Some a) next = next a

-- a copy of a body for each item
abbrev pub copy_loads : (Data → ℕ) → Items → ℕ
copy_loads copy no_items = 0
copy_loads copy (item d ds) = copy d + copy_loads copy ds

abbrev pub copies_load : (Data → ℕ) → Listed → ℕ
copies_load copy (Listed.items ds) = copy_loads copy ds
copies_load copy (Listed.none f) = 0

module _ (known : Key → Option Outcome) where
  abbrev mutual
    -- how many loads the term asks for, if `known` gives the outcome of each key that has one, and i is the item around
    -- it: a load is one; a follow asks for one more than its part, an each for one for each id, and an over for those of
    -- the body for each item, unless the part gives none
    pub loads_at : Option Data → Tree → ℕ
    loads_at i (ended a) = 0
    loads_at i (load k) = 1
    loads_at i (pick t field) = loads_at i t
    loads_at i (follow t field table) = loads_at i t + loads_after (answer_at known i t) (λ a. target_loads (target_in table (picked field a)))
    loads_at i (each t field table) = loads_at i t + loads_after (answer_at known i t) (λ a. targets_loads (targets_in table (picked field a)))
    loads_at i (all ts) = all_loads_at i ts
    loads_at i (over t body) = loads_at i t + loads_after (answer_at known i t) (λ a. copies_load (λ d. loads_at (Some d) body) (listed a))
    loads_at i the_item = 0
    loads_at i (named names ts) = all_loads_at i ts

    pub all_loads_at : Option Data → Trees → ℕ
    all_loads_at i no_trees = 0
    all_loads_at i (tree t ts) = loads_at i t + all_loads_at i ts

  abbrev pub term_loads : Tree → ℕ
  term_loads t = loads_at None t

-- ---- what a term reads

-- the cell of each key that a term has read
abbrev pub Cells : Type 0
Cells = List (Key × ℕ)

-- with those of a round's loads
abbrev pub with_loads : Cells → List Key → List LoadReply → Cells
with_loads cells [] rs = cells
with_loads cells (k ∷ ks) [] = cells
with_loads cells (k ∷ ks) (r ∷ rs) = with_loads (insert_entry key_eq cells k (cell_of_load r)) ks rs

abbrev pub with_call : Cells → Call → Reply → Cells
with_call cells (LoadMany ks) (Many rs) = with_loads cells ks rs
with_call cells call reply = cells

-- the outcome of each key that a term has read in a history of these events
abbrev pub known_by : List Event → Cells → Key → Option Outcome
known_by events cells k = option_and_then (outcome (past events)) (lookup (key_eq k) cells)

-- ---- the rounds of a term

module _ (events : List Event) where
  -- the loads that a term asks for that has read these cells, and reads rounds until it has its answer
  abbrev pub loads_in : Tree → Cells → List Event → ℕ
  loads_in t cells [] = term_loads (known_by events cells) t
  loads_in t cells (round ∷ rounds) =
      if is_some (answer (known_by events cells) t) then term_loads (known_by events cells) t
      else loads_in t (with_call cells round.call round.reply) rounds

  -- the rounds that it leaves to the next term
  abbrev pub rounds_after : Tree → Cells → List Event → List Event
  rounds_after t cells [] = []
  rounds_after t cells (round ∷ rounds) =
      if is_some (answer (known_by events cells) t) then round ∷ rounds
      else rounds_after t (with_call cells round.call round.reply) rounds

  -- ---- plans

  -- the loads that terms ask for, one after another, of which the first reads from the first of these rounds on
  abbrev pub terms_loads : List Tree → List Event → ℕ
  terms_loads [] rounds = 0
  terms_loads (t ∷ ts) rounds = loads_in t [] rounds + terms_loads ts (rounds_after t [] rounds)

  -- the loads that the terms of plans ask for, of which the first is the caller of this number
  abbrev pub loads_from : ℕ → List (List Tree) → ℕ
  loads_from caller [] = 0
  loads_from caller (ts ∷ plans) = terms_loads ts (round_events caller events) + loads_from (caller + 1) plans

-- the loads that the terms of served plans ask for
abbrev pub loads_asked : List Event → List (List Tree) → ℕ
loads_asked events plans = loads_from events 0 plans

-- the terms of a step
abbrev pub step_terms : Step → List Tree
step_terms (Prime k o) = []
step_terms (Clear k) = []
step_terms ClearAll = []
step_terms (Eval term) = term_view term ∷ []

-- the terms of a plan, in order
abbrev pub plan_terms : Plan → List Tree
plan_terms plan = flat_map step_terms plan.steps.items

-- lists of terms, as contracts see them
abbrev pub trees_of_terms : List (Vec Term Global) → List (List Tree)
trees_of_terms plans = map (λ ts. map term_view ts.items) plans
