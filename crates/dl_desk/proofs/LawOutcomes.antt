-- A cell that was given an outcome keeps it.
use Rattle.std.proofs.Common.{◌≡◌, ◌∙◌, sym, ap, ℕ, ◌<◌, ◌≤◌, Bool, true, false, cond, List, [], ◌∷◌, ◌++◌, map, Option, Some, None, nat_eq, append_assoc}
use Rattle.std.proofs.Common.{refl, arith}
use Rattle.std.specs.Option.{option_and_then}
use Rattle.std.specs.List.{zip}
use Rattle.std.specs.Map.{lookup}
use Rattle.std.proofs.lemmas.List.{append-nil, map-append}
use Rattle.dl_values.specs.Key.{Key}
use Rattle.dl_desk.specs.Laws.{OutcomesStay}
use Rattle.dl_desk.specs.Service.{Service}
use Rattle.dl_desk.specs.Legal.{IsLegal}
use Rattle.dl_desk.specs.History.{Atom, Begun, begins, cells, is_number, add_member, members}
use Rattle.dl_desk.specs.Events.{call_atoms, atoms, cell_batch, Placed, ending, batch_cells, outcome_given, outcome}
use Rattle.dl_desk.specs.declared.event.Event.{Event}
use Rattle.dl_desk.specs.declared.event.Call.{Call}
use Rattle.dl_desk.specs.declared.event.Call.TheVariants.{Settle}
use Rattle.dl_values.specs.declared.outcome.Outcome.{Outcome}
use Rattle.dl_desk.proofs.LawEnds.{cells-append, batch_stays, ended-low, ending_stays}
use Rattle.dl_desk.proofs.PastAtoms.{legal_before}

-- ---- members are added at the end

-- one list begins with another
pub record Extends (old new : List (Key × ℕ)) : Type 0 where
  pub more : List (Key × ℕ)
  pub is : new ≡ old ++ more

extends_same : (ms : List (Key × ℕ)) → Extends ms ms
extends_same ms = record { more = []; is = sym (append-nil ms) }

extends_on : (a b c : List (Key × ℕ)) → Extends a b → Extends b c → Extends a c
extends_on a b c f s = record { more = f.more ++ s.more; is = s.is ∙ (ap (λ (xs : List (Key × ℕ)). xs ++ s.more) f.is ∙ append_assoc a f.more s.more) }

extends_atom : (b : ℕ) (o : Option Begun) (ms : List (Key × ℕ)) → Extends ms (add_member b o ms)
extends_atom b None ms = extends_same ms
extends_atom b (Some g) ms = by (is_number b g.batch)
  where
    by : (t : Bool) → Extends ms (cond t (ms ++ (g.key, g.cell) ∷ []) ms)
    by true = record { more = (g.key, g.cell) ∷ []; is = refl }
    by false = extends_same ms

extends_append : (added history : List Atom) (b : ℕ) → Extends (members history b) (members (added ++ history) b)
extends_append [] history b = extends_same (members history b)
extends_append (a ∷ added) history b = extends_on (members history b) (members (added ++ history) b) (members (a ∷ (added ++ history)) b)
    (extends_append added history b) (extends_atom b (begins a) (members (added ++ history) b))

extends_past : (later before : List Event) (b : ℕ) → Extends (members (atoms before) b) (members (atoms (later ++ before)) b)
extends_past [] before b = extends_same (members (atoms before) b)
extends_past (e ∷ later) before b = extends_on (members (atoms before) b) (members (atoms (later ++ before)) b) (members (atoms (e ∷ (later ++ before))) b)
    (extends_past later before b) (extends_append (call_atoms e.call e.reply) (atoms (later ++ before)) b)

-- ---- the batch of a cell stays

cells-past : (later before : List Event) → cells (atoms before) ≤ cells (atoms (later ++ before))
cells-past [] before = omega arith
cells-past (e ∷ later) before =
    let rest = cells-past later before in
    let one = cells-append (call_atoms e.call e.reply) (atoms (later ++ before)) in
    omega arith

batch_past : (s : Service) (later before : List Event) (c : ℕ) → IsLegal s (later ++ before) → c < cells (atoms before)
    → cell_batch (atoms (later ++ before)) c ≡ cell_batch (atoms before) c
batch_past s [] before c legal low = refl
batch_past s (e ∷ later) before c legal low =
    let more = cells-past later before in
    let still : c < cells (atoms (later ++ before)) = omega arith in
    batch_stays s e (later ++ before) c legal still ∙ batch_past s later before c legal.1 low

-- ---- the outcome beside a cell

beside_step : (c d : ℕ) (o found : Outcome) (rest longer : Option Outcome) (t : Bool) → (rest ≡ Some found → longer ≡ Some found)
    → cond t (Some o) rest ≡ Some found → cond t (Some o) longer ≡ Some found
beside_step c d o found rest longer true more is = is
beside_step c d o found rest longer false more is = more is

beside : (c : ℕ) (found : Outcome) (cs ds : List ℕ) (os : List Outcome) → lookup (nat_eq c) (zip cs os) ≡ Some found
    → lookup (nat_eq c) (zip (cs ++ ds) os) ≡ Some found
beside c found [] ds os is = absurd (let bad : ◌≡◌ {A = Option Outcome} None (Some found) = is in cc)
beside c found (d ∷ cs) ds [] is = absurd (let bad : ◌≡◌ {A = Option Outcome} None (Some found) = is in cc)
beside c found (d ∷ cs) ds (o ∷ os) is = beside_step c d o found (lookup (nat_eq c) (zip cs os)) (lookup (nat_eq c) (zip (cs ++ ds) os)) (nat_eq c d)
    (beside c found cs ds os) is

each_stays : (later before : List Event) (c : ℕ) (found : Outcome) (os : List Outcome) (o : Option ℕ)
    → lookup (nat_eq c) (zip (batch_cells (atoms before) o) os) ≡ Some found → lookup (nat_eq c) (zip (batch_cells (atoms (later ++ before)) o) os) ≡ Some found
each_stays later before c found os None is = is
each_stays later before c found os (Some b) is =
    let e = extends_past later before b in
    rw (e.is, map-append) (beside c found (map (λ (m : Key × ℕ). m.1) (members (atoms before) b)) (map (λ (m : Key × ℕ). m.1) e.more) os is)

given_stays : (s : Service) (later before : List Event) (c : ℕ) (found : Outcome) → IsLegal s (later ++ before) → c < cells (atoms before)
    → (call : Call) → outcome_given (atoms before) c call ≡ Some found → outcome_given (atoms (later ++ before)) c call ≡ Some found
given_stays s later before c found legal low (Settle b os) is = rw (batch_past s later before c legal low)
    (each_stays later before c found os (cell_batch (atoms before) c) is)
given_stays s later before c found legal low call is = is

-- ---- the law

outcome_stays : (s : Service) (later before : List Event) (c : ℕ) (found : Outcome) → IsLegal s (later ++ before) → (o : Option Placed)
    → ending before c ≡ o → option_and_then (λ (p : Placed). outcome_given (atoms before) c p.event.call) o ≡ Some found
    → outcome (later ++ before) c ≡ Some found
outcome_stays s later before c found legal None is e = absurd (let bad : ◌≡◌ {A = Option Outcome} None (Some found) = e in cc)
outcome_stays s later before c found legal (Some p) is e =
    let low = ended-low s before c p (legal_before s later before legal) is in
    rw (ending_stays s later before c p legal is) (given_stays s later before c found legal low p.event.call e)

pub outcomes_stay : OutcomesStay
outcomes_stay s later before c found legal is = outcome_stays s later before c found legal (ending before c) refl is
