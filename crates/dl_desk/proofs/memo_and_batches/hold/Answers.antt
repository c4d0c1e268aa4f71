use Rattle.std.proofs.Common.{◌∙◌, sym, refl, rules}
use Rattle.indexmap.proofs.CallerLemmas.{insert_entry-new}
use Rattle.dl_values.specs.Key.{key_eq}
use Rattle.dl_desk.proofs.MemoPlaces.{held_at, noted_at}
use Rattle.dl_desk.proofs.memo_and_batches.hold.Goals as goal

pub returns-in-Vacant-clause-noted : goal.returns-in-Vacant-clause-noted
returns-in-Vacant-clause-noted c = λ none.
    let absent = rw c.in-Vacant.is at c.in_ok-entry.ensures.found in
    let update = rw c.in-Vacant.is at c.in_ok-entry.ensures.update in
    let written = update.1 c.args.cell ∙ insert_entry-new key_eq c.args.memo.now c.args.key c.args.cell absent in
    let value = c.insert.ensures.value in
    search rules

pub returns-in-Vacant-clause-place : goal.returns-in-Vacant-clause-place
returns-in-Vacant-clause-place c =
    let absent = rw c.in-Vacant.is at c.in_ok-entry.ensures.found in
    let index = rw c.in-Vacant.is at c.in_ok-entry.ensures.index in
    let at = c.index-place.ensures ∙ index in
    let grown = returns-in-Vacant-clause-noted c refl in
    rw (at, grown) (noted_at c.args.memo.now.entries c.args.key c.args.cell absent)

pub returns-in-Occupied-clause-kept : goal.returns-in-Occupied-clause-kept
returns-in-Occupied-clause-kept c = λ some. search rules

pub returns-in-Occupied-clause-place : goal.returns-in-Occupied-clause-place
returns-in-Occupied-clause-place c =
    let value = rw c.in-Occupied.is at c.in_ok-entry.ensures.value in
    let index = rw c.in-Occupied.is at c.in_ok-entry.ensures.index in
    let held = sym value ∙ c.get.ensures in
    let at = c.index.ensures ∙ index in
    let same = returns-in-Occupied-clause-kept c refl in
    rw (same, at) (held_at c.args.memo.now.entries c.args.key _ held)
