-- A document's bytes, and the first bytes of a reader.
use Rattle.std.proofs.Common.{◌≡◌, ◌⊎◌, inl, inr, refl, sym, subst, ℕ, ◌<◌, ◌≤◌, List, [], length, take, Option, Some, None, Result, Ok, Err, append-nil, arith}
use Rattle.std.proofs.lemmas.Bool.{cases_lt}
use Rattle.std.proofs.lemmas.List.{take_all, length-take}
use Rattle.std.specs.Io.KnownBytes.{Appends, Keeps}
use Rattle.std.specs.Option.{IfSome, is_some}
use Rattle.std.specs.Result.{IfOk, OnOk}
use Rattle.serde_json.specs.Data.{Data}
use Rattle.dl_documents.specs.Document.{IsTextOf, Spells}
use Rattle.dl_documents.specs.Faults.{AppliesTo, IsBefore, IsLeast, number, most_bytes}
use Rattle.dl_documents.specs.OverDatabase.{over_database, read_as}
use Rattle.dl_documents.specs.declared.fault.PlanFault.{PlanFault}
use Rattle.dl_documents.specs.declared.fault.PlanFault.TheVariants as fault
use Rattle.dl_source.specs.Tables.{Tables}
use Rattle.dl_documents.specs.declared.fault.PlanFault.TheVariants.{TooLarge, NotJson, Version, Top, BadCall, Shape, TooDeep, TooManySteps}
use Rattle.dl_documents.specs.declared.fault.PlanFault.TheVariants.{Table, Limit, OutOfMemory}
use Rattle.dl_documents.specs.declared.input.Input.{Input}
use Rattle.dl_documents.specs.declared.input.Input.TheVariants as input
use Rattle.dl_plans.specs.declared.settings.Options.{Options}
use Rattle.dl_migration.specs.Migration.{IsMigrated, IsOther}
use Rattle.dl_migration.specs.declared.target.Target.{Target}
use Rattle.dl_plans.specs.History.{HasHistory, IsNoHistory}
use Rattle.dl_plans.specs.Migration.{IsNotMigrated}
use Rattle.dl_plans.specs.Run.{AppendsFront, IsDocument, read_by, IsOutput, IsRefused, Writes, WritesFront}
use Rattle.dl_plans.specs.declared.fault.RunError.{RunError}
use Rattle.dl_plans.specs.declared.fault.RunError.TheVariants as error
use Rattle.dl_plans.specs.declared.streams.TheConstants.{MOST_READ}

-- the first bytes, if there are no more than a document has, are all
all_read : (bytes : List ℕ) → length (take MOST_READ bytes) ≤ most_bytes → take MOST_READ bytes ≡ bytes
all_read bytes h = take_all MOST_READ bytes (omega (arith, length-take {A = ℕ} MOST_READ bytes))

pub document_all : (options : Options) (bytes : List ℕ) (i : Input) → IsDocument options (take MOST_READ bytes) i → IsDocument options bytes i
document_all options bytes i d = rw (all_read bytes d.small) at d

-- bytes to which no refusal applies are as few as a document has
within : (reading : Data → Data) (bytes : List ℕ) → ((f : PlanFault) → AppliesTo reading bytes f → ⊥) → length bytes ≤ most_bytes
within reading bytes passes = elim (cases_lt most_bytes (length bytes)) [ inl many ↦ absurd (passes TooLarge many) | inr few ↦ few ]

pub migrated_all : (target : Target) (bytes text : List ℕ) → IsMigrated target (take MOST_READ bytes) text → IsMigrated target bytes text
migrated_all target bytes text m = rw (all_read bytes (within (λ d. d) (take MOST_READ bytes) m.reads.passes)) at m

other_all : (target : Target) (bytes : List ℕ) → IsOther target (take MOST_READ bytes) → IsOther target bytes
other_all target bytes o = rw (all_read bytes (within (λ d. d) (take MOST_READ bytes) o.reads.passes)) at o

-- what is given for the first bytes is given for all
abbrev pub IsForAll : (List ℕ → List ℕ → Type 0) → Type 0
IsForAll IsGiven = (bytes text : List ℕ) → IsGiven (take MOST_READ bytes) text → IsGiven bytes text

pub output_all : (options : Options) → IsForAll (IsOutput options)
output_all options bytes text a = (a.0, document_all options bytes a.0 a.1, a.2)

pub run_writes : (IsGiven : List ℕ → List ℕ → Type 0) (all : IsForAll IsGiven) (held : Option (List ℕ)) (read text : List ℕ)
    (old new : Option (List ℕ)) → IfSome held (λ bytes. read ≡ take MOST_READ bytes) → IsGiven read text → Appends old new text
    → IfSome held (Writes IsGiven old new)
run_writes IsGiven all None read text old new is a written = tt
run_writes IsGiven all (Some bytes) read text old new is a written =
    record { text = text; given = all bytes text (rw is at a); written = written }

pub run_writes_front : (IsGiven : List ℕ → List ℕ → Type 0) (all : IsForAll IsGiven) (held : Option (List ℕ)) (read text : List ℕ)
    (old new : Option (List ℕ)) → IfSome held (λ bytes. read ≡ take MOST_READ bytes) → IsGiven read text → AppendsFront old new text
    → IfSome held (WritesFront IsGiven old new)
run_writes_front IsGiven all None read text old new is a written = tt
run_writes_front IsGiven all (Some bytes) read text old new is a written =
    record { text = text; given = all bytes text (rw is at a); written = written }

-- the same of a write that may have failed
pub run_ok : (IsGiven : List ℕ → List ℕ → Type 0) (all : IsForAll IsGiven) (written : Result (Unit {0}) RunError) (held : Option (List ℕ))
    (read text : List ℕ) (old new : Option (List ℕ)) → IfSome held (λ bytes. read ≡ take MOST_READ bytes) → IsGiven read text
    → OnOk written (Appends old new text) → OnOk written (IfSome held (Writes IsGiven old new))
run_ok IsGiven all (Ok u) held read text old new is a h = run_writes IsGiven all held read text old new is a h
run_ok IsGiven all (Err e) held read text old new is a h = tt

-- what was read of bytes that no refusal applies to
pub document_read : (options : Options) (bytes : List ℕ) (i : Input) → ((d : Data) × IsTextOf bytes d × Spells (read_by options d) i)
    → ((f : PlanFault) → AppliesTo (read_by options) bytes f → ⊥) → IsDocument options bytes i
document_read options bytes i p passes = record {
  small = within (read_by options) bytes passes;
  tree = p.0;
  is_text = p.1;
  spells = p.2;
}

-- what holds of all that a call gave holds of what was made of it
pub made_of : {X E F : Type 0} (made : Result X E) (given : Result X F) (P Q : X → Type 0) → IfOk made (λ x. given ≡ Ok x) → IfOk given P
    → ((x : X) → P x → Q x) → IfOk made Q
made_of (Ok x) given P Q is has to = to x (subst (λ (r : Result _ _). IfOk r P) is has)
made_of (Err e) given P Q is has to = tt

-- what is read without a database is read as it is, and with one over it
module _ (database : Option Tables) (bytes : List ℕ) where
  abbrev Refuses : (Data → Data) → PlanFault → Type 0
  Refuses reading f = (f ≡ fault.OutOfMemory) ⊎ IsLeast (AppliesTo reading bytes) f

  abbrev Passes : (Data → Data) → Type 0
  Passes reading = (f : PlanFault) → AppliesTo reading bytes f → ⊥

  pub refused_alone : (f : PlanFault) → database ≡ None → Refuses (λ d. d) f → Refuses (read_as (is_some database)) f
  refused_alone f is h = subst (λ (o : Option Tables). Refuses (read_as (is_some o)) f) (sym is) h

  pub refused_over : (tables : Tables) (f : PlanFault) → database ≡ Some tables → Refuses over_database f → Refuses (read_as (is_some database)) f
  refused_over tables f is h = subst (λ (o : Option Tables). Refuses (read_as (is_some o)) f) (sym is) h

  pub passes_alone : database ≡ None → Passes (λ d. d) → Passes (read_as (is_some database))
  passes_alone is h = subst (λ (o : Option Tables). Passes (read_as (is_some o))) (sym is) h

  pub passes_over : (tables : Tables) → database ≡ Some tables → Passes over_database → Passes (read_as (is_some database))
  passes_over tables is h = subst (λ (o : Option Tables). Passes (read_as (is_some o))) (sym is) h

-- a writer that took nothing has a front of any text
pub front_of_none : (held : Option (List ℕ)) (text : List ℕ) → AppendsFront held held text
front_of_none held text = record { count = 0; within = omega arith; written = nothing_more held }
  where
    nothing_more : (o : Option (List ℕ)) → Appends o o []
    nothing_more None = tt
    nothing_more (Some xs) = sym (append-nil xs)

-- nor has one lost what it took
pub keeps_all : (held : Option (List ℕ)) → Keeps held held
keeps_all None = tt
keeps_all (Some bytes) = refl

-- files that can't be written say nothing of the document
pub kept_says : (options : Options) (held : Option (List ℕ)) (e : RunError) → (e ≡ error.Write) ⊎ (e ≡ error.OutOfMemory)
    → IfSome held (λ bytes. IsRefused options bytes e)
kept_says options None e h = tt
kept_says options (Some bytes) e (inl is) = subst (IsRefused options bytes) (sym is) tt
kept_says options (Some bytes) e (inr is) = subst (IsRefused options bytes) (sym is) tt

-- nothing comes before the first refusal
numbered : (f : PlanFault) → 1 ≤ number f
numbered TooLarge = omega arith
numbered NotJson = omega arith
numbered Version = omega arith
numbered Top = omega arith
numbered (BadCall n) = omega arith
numbered (Shape n s) = omega arith
numbered (TooDeep n s) = omega arith
numbered (TooManySteps n) = omega arith
numbered (Table f) = omega arith
numbered (Limit l) = omega arith
numbered OutOfMemory = omega arith

not_before : (g : PlanFault) → IsBefore g TooLarge → ⊥
not_before g (inl h) = let k = numbered g in omega arith
not_before g (inr h) = elim h.1 [ inl e ↦ omega (arith, e) | inr e ↦ omega (arith, e.1) ]

large_refused : (reading : Data → Data) (bytes : List ℕ) (f : PlanFault) → most_bytes < length bytes → (IsBefore TooLarge f → ⊥) → AppliesTo reading (take MOST_READ bytes) f
    → IsLeast (AppliesTo reading bytes) f
large_refused reading bytes TooLarge h first a = record { applies = h; first = λ g k before. not_before g before }
large_refused reading bytes NotJson h first a = absurd (first (inl (omega arith)))
large_refused reading bytes Version h first a = absurd (first (inl (omega arith)))
large_refused reading bytes Top h first a = absurd (first (inl (omega arith)))
large_refused reading bytes (BadCall n) h first a = absurd (first (inl (omega arith)))
large_refused reading bytes (Shape n s) h first a = absurd (first (inl (omega arith)))
large_refused reading bytes (TooDeep n s) h first a = absurd (first (inl (omega arith)))
large_refused reading bytes (TooManySteps n) h first a = absurd (first (inl (omega arith)))
large_refused reading bytes (Table f) h first a = absurd (first (inl (omega arith)))
large_refused reading bytes (Limit l) h first a = absurd (first (inl (omega arith)))
large_refused reading bytes OutOfMemory h first a = absurd a

refused_by : (reading : Data → Data) (bytes : List ℕ) (f : PlanFault) → (length bytes ≤ most_bytes) ⊎ (most_bytes < length bytes) → IsLeast (AppliesTo reading (take MOST_READ bytes)) f
    → IsLeast (AppliesTo reading bytes) f
refused_by reading bytes f (inl few) least = rw (take_all MOST_READ bytes (omega arith)) at least
refused_by reading bytes f (inr many) least =
    let large : most_bytes < length (take MOST_READ bytes) = omega (arith, length-take {A = ℕ} MOST_READ bytes) in
    large_refused reading bytes f many (least.first TooLarge large) least.applies

either_size : (n : ℕ) → (n ≤ most_bytes) ⊎ (most_bytes < n)
either_size n = elim (cases_lt most_bytes n) [ inl many ↦ inr many | inr few ↦ inl few ]

-- the first refusal of the first bytes is that of all
pub least_all : (reading : Data → Data) (bytes : List ℕ) (f : PlanFault) → IsLeast (AppliesTo reading (take MOST_READ bytes)) f
    → IsLeast (AppliesTo reading bytes) f
least_all reading bytes f least = refused_by reading bytes f (either_size (length bytes)) least

pub not_migrated_all : (target : Target) (bytes : List ℕ) (e : RunError) → IsNotMigrated target (take MOST_READ bytes) e → IsNotMigrated target bytes e
not_migrated_all target bytes error.Read h = h
not_migrated_all target bytes (error.Refused f) h = least_all (λ d. d) bytes f h
not_migrated_all target bytes (error.Run f) h = h
not_migrated_all target bytes error.Write h = h
not_migrated_all target bytes error.OutOfMemory h = h
not_migrated_all target bytes error.NotVersion1 h = (h.0, other_all target bytes h.1)
not_migrated_all target bytes error.NotVersion1Or2 h = (h.0, other_all target bytes h.1)
not_migrated_all target bytes (error.NoHistory f) h = h

-- what an error says of the first bytes it says of all
abbrev pub IsSaidOfAll : (List ℕ → RunError → Type 0) → Type 0
IsSaidOfAll Says = (bytes : List ℕ) (e : RunError) → Says (take MOST_READ bytes) e → Says bytes e

pub run_refused : (Says : List ℕ → RunError → Type 0) (all : IsSaidOfAll Says) (held : Option (List ℕ)) (read : List ℕ) (e : RunError)
    → IfSome held (λ bytes. read ≡ take MOST_READ bytes) → Says read e → IfSome held (λ bytes. Says bytes e)
run_refused Says all None read e is h = tt
run_refused Says all (Some bytes) read e is h = all bytes e (rw is at h)

pub refused_all : (options : Options) → IsSaidOfAll (IsRefused options)
refused_all options bytes error.Read h = h
refused_all options bytes (error.Refused f) h = least_all (read_by options) bytes f h
refused_all options bytes (error.Run f) h = (h.0, document_all options bytes (input.Plans h.0) h.1, h.2)
refused_all options bytes error.Write h = h
refused_all options bytes error.OutOfMemory h = h
refused_all options bytes error.NotVersion1 h = h
refused_all options bytes error.NotVersion1Or2 h = h
refused_all options bytes (error.NoHistory f) h = h

-- ---- histories

pub history_all : (bytes : List ℕ) → HasHistory (take MOST_READ bytes) → HasHistory bytes
history_all bytes h = rw (all_read bytes h.1) at h

pub no_history_all : (bytes : List ℕ) (e : RunError) → IsNoHistory (take MOST_READ bytes) e → IsNoHistory bytes e
no_history_all bytes error.Read h = h
no_history_all bytes (error.Refused f) h = (h.0, omega (arith, h.1, length-take {A = ℕ} MOST_READ bytes))
no_history_all bytes (error.Run f) h = h
no_history_all bytes error.Write h = h
no_history_all bytes error.OutOfMemory h = h
no_history_all bytes error.NotVersion1 h = h
no_history_all bytes error.NotVersion1Or2 h = h
no_history_all bytes (error.NoHistory f) h = rw (all_read bytes h.0) at h

pub run_has_history : (written : Result (Unit {0}) RunError) (held : Option (List ℕ)) (read : List ℕ) → IfSome held (λ bytes. read ≡ take MOST_READ bytes)
    → HasHistory read → OnOk written (IfSome held HasHistory)
run_has_history (Err e) held read is h = tt
run_has_history (Ok u) None read is h = tt
run_has_history (Ok u) (Some bytes) read is h = history_all bytes (rw is at h)
