-- How the values that contracts see are told apart: a code for each, the tuple of what it has.
use Rattle.std.specs.Prelude.{◌≡◌, ℕ, ◌⊎◌, List, refl}
use Rattle.std.proofs.Common.{inl, inr}
use Rattle.std.specs.Coded.{Coded, code_by, coded_ℕ, coded_list, coded×, coded⊎}
use Rattle.dl_desk.specs.declared.event.Event.{Event}
use Rattle.dl_desk.specs.contracts.event.Event as event
use Rattle.dl_desk.specs.declared.event.Ending.{Ending}
use Rattle.dl_desk.specs.contracts.event.Ending as ending
use Rattle.dl_history.specs.Entries.{PlacedEvent, event_at, Read, read, Entry, Called, Saw}
use Rattle.dl_history.specs.Agreement.{Account, account}

-- an event, by its place and itself
abbrev pub placed_event_code : Coded PlacedEvent
placed_event_code = code_by (ℕ × Event) (coded× coded_ℕ event.the_row.coded) (λ t. (t.at, t.event)) (λ p. event_at p.0 p.1) (λ _. refl)

-- what was read, by its cell and its end
abbrev pub read_code : Coded Read
read_code = code_by (ℕ × Ending) (coded× coded_ℕ ending.the_row.coded) (λ r. (r.cell, r.ending)) (λ p. read p.0 p.1) (λ _. refl)

-- an entry, by which kind it is
abbrev split : Entry → PlacedEvent ⊎ Read
split (Called t) = inl t
split (Saw r) = inr r

abbrev join : PlacedEvent ⊎ Read → Entry
join (inl t) = Called t
join (inr r) = Saw r

pub join-split : (entry : Entry) → join (split entry) ≡ entry
join-split (Called t) = refl
join-split (Saw r) = refl

abbrev pub entry_code : Coded Entry
entry_code = code_by (PlacedEvent ⊎ Read) (coded⊎ placed_event_code read_code) split join join-split

-- an account, by its caller and its entries
abbrev pub account_code : Coded Account
account_code = code_by (ℕ × List Entry) (coded× coded_ℕ (coded_list entry_code)) (λ a. (a.caller, a.entries)) (λ p. account p.0 p.1) (λ _. refl)
