use Rattle.std.proofs.Common.{◌≡◌, ◌≤◌, length, map, take, Some, inl, inr, refl, rules, arith}
use Rattle.std.proofs.lemmas.Bool.{cases_eq}
use Rattle.dl_values.proofs.Errors.{on_err}
use Rattle.dl_desk.specs.Inside.Preparation.{prepared_batch, shown_batch}
use Rattle.dl_desk.specs.declared.table_book.Newest.{Newest}
use Rattle.dl_desk.specs.Inside.TableBook.{newest_at, open_for, renewed, Renews}
use Rattle.dl_desk.proofs.TableLemmas.{touching, some_low, next_empty, tables_kept}
use Rattle.dl_desk.proofs.TableJoins.{IsTold, is_told, IsJoined, within, beside_grown, last_low, room_low, joined_room, joined_next, joined_old, joined_new}
use Rattle.dl_desk.proofs.table_book.TableBook.join.Goals as goal

told-open : (c : goal.After-with_room-arg-1) → IsTold c.args.standing c.args.key.now c.args.batches.now.items c.newest_of.new.self c.in_ok-newest.newest
told-open c = is_told _ _ _ c.args.self.now c.newest_of.new.self c.in_ok-newest.newest c.in_ok-name.name c.max_batch.result
    (record { stored = c.requires.stored; later = c.requires.shown; fits = c.requires.fits }) c.in_ok-name.ensures c.max_batch.ensures.value
    c.in_ok-newest.ensures.renews c.in_ok-newest.ensures.newest

pub returns-in_err-newest-clause-err_fits : goal.returns-in_err-newest-clause-err_fits
returns-in_err-newest-clause-err_fits c = on_err _ (tables_kept _ _ c.args.self.now c.newest_of.new.self c.in_err-newest.ensures.err c.requires.fits)

last : (c : goal.After-with_room-arg-1) → c.newest_in-last.result
    ≡ newest_at (take c.args.standing.prepared.begun (map prepared_batch c.args.batches.now.items)) c.args.key.now.table (Some c.in_ok-newest.newest)
last c = search rules

pub with_room-open-requires-clause-newest : goal.with_room-open-requires-clause-newest
with_room-open-requires-clause-newest c = some_low c.newest_in-last.result c.args.standing.prepared.begun
    (last_low (told-open c).beside c.args.key.now.table c.in_ok-newest.newest (told-open c).known c.newest_in-last.result (last c))

told-reserve : (c : goal.After-drop-name-in_err-reserve)
    → IsTold c.args.standing c.args.key.now c.args.batches.now.items c.newest_of.new.self c.in_ok-newest.newest
told-reserve c = is_told _ _ _ c.args.self.now c.newest_of.new.self c.in_ok-newest.newest c.in_ok-name.name c.max_batch.result
    (record { stored = c.requires.stored; later = c.requires.shown; fits = c.requires.fits }) c.in_ok-name.ensures c.max_batch.ensures.value
    c.in_ok-newest.ensures.renews c.in_ok-newest.ensures.newest

pub returns-in_err-reserve-clause-err_fits : goal.returns-in_err-reserve-clause-err_fits
returns-in_err-reserve-clause-err_fits c = rw c.in_err-reserve.ensures.items (on_err _ (rw (← c.self.view_is) at (told-reserve c).beside.fits))

told-join : (c : goal.After-join-arg-3-1) → IsTold c.args.standing c.args.key.now c.args.batches.now.items c.newest_of.new.self c.in_ok-newest.newest
told-join c = is_told _ _ _ c.args.self.now c.newest_of.new.self c.in_ok-newest.newest c.in_ok-name.name c.max_batch.result
    (record { stored = c.requires.stored; later = c.requires.shown; fits = c.requires.fits }) c.in_ok-name.ensures c.max_batch.ensures.value
    c.in_ok-newest.ensures.renews c.in_ok-newest.ensures.newest

room-join : (c : goal.After-join-arg-3-1) → c.with_room-open.result ≡ open_for c.args.standing.prepared.sent
    (take c.args.standing.prepared.begun (map prepared_batch c.args.batches.now.items)) c.args.key.now.table c.in_ok-newest.newest
room-join c = search rules

pub join-requires-clause-newest : goal.join-requires-clause-newest
join-requires-clause-newest c =
    let least : c.with_room-open.result ≤ c.args.standing.prepared.begun =
    room_low (told-join c).beside c.args.key.now.table c.in_ok-newest.newest (told-join c).known c.with_room-open.result (room-join c) in
    let inside : c.args.standing.prepared.begun ≤ length c.args.batches.now.items = within (told-join c).beside in
    omega (arith, c.args.batches.now.ok.0)

pub join-requires-clause-next_is_empty : goal.join-requires-clause-next_is_empty
join-requires-clause-next_is_empty c = next_empty c.args.standing.prepared _ _ c.requires.stored

told-number : (c : goal.After-drop-name-in_err-number)
    → IsTold c.args.standing c.args.key.now c.args.batches.now.items c.newest_of.new.self c.in_ok-newest.newest
told-number c = is_told _ _ _ c.args.self.now c.newest_of.new.self c.in_ok-newest.newest c.in_ok-name.name c.max_batch.result
    (record { stored = c.requires.stored; later = c.requires.shown; fits = c.requires.fits }) c.in_ok-name.ensures c.max_batch.ensures.value
    c.in_ok-newest.ensures.renews c.in_ok-newest.ensures.newest

pub returns-in_err-number-clause-err_fits : goal.returns-in_err-number-clause-err_fits
returns-in_err-number-clause-err_fits c = rw c.in_ok-reserve.ensures.items (on_err _
    (rw (← c.self.view_is) at (beside_grown (told-number c).beside c.join.new.batches.items c.in_err-number.ensures.err)))

told-then : (c : goal.After-drop-name-2) → IsTold c.args.standing c.args.key.now c.args.batches.now.items c.newest_of.new.self c.in_ok-newest.newest
told-then c = is_told _ _ _ c.args.self.now c.newest_of.new.self c.in_ok-newest.newest c.in_ok-name.name c.max_batch.result
    (record { stored = c.requires.stored; later = c.requires.shown; fits = c.requires.fits }) c.in_ok-name.ensures c.max_batch.ensures.value
    c.in_ok-newest.ensures.renews c.in_ok-newest.ensures.newest

room-then : (c : goal.After-drop-name-2) → c.with_room-open.result ≡ open_for c.args.standing.prepared.sent
    (take c.args.standing.prepared.begun (map prepared_batch c.args.batches.now.items)) c.args.key.now.table c.in_ok-newest.newest
room-then c = search rules

joined : (c : goal.After-drop-name-2)
    → IsJoined c.args.standing c.args.key.now c.args.cell c.args.batches.now.items c.join.new.batches.items c.newest_of.new.self
    c.in_ok-newest.newest c.with_room-open.result c.in_ok-number.number
joined c = record { is_told = told-then c; room_is = room-then c; number = c.in_ok-number.ensures.number; added = c.in_ok-number.ensures.added }

pub returns-clause-room : goal.returns-clause-room
returns-clause-room c = λ book is. joined_room (joined c) book (rw c.in_ok-newest.ensures.renews.limits is)

pub returns-clause-next : goal.returns-clause-next
returns-clause-next c = joined_next (joined c)

pub returns-clause-fits : goal.returns-clause-fits
returns-clause-fits c =
    let touched = rw c.reserve.ensures.items at c.push_reserved.ensures.items in
    elim (cases_eq c.in_ok-number.number c.args.standing.prepared.begun) [
      | inl is ↦
          let e : Newest = renewed (take c.args.standing.shown.begun (map shown_batch c.join.new.batches.items)) c.args.key.now.table c.in_ok-newest.newest
          c.in_ok-number.number in
          let renews : Renews (touching c.newest_of.new.self c.in_ok-number.number) c.args.key.now.table e c.tell.new.self =
          rw (← c.self.view_is, ← c.as_slice-3.ensures.value) (rw (touched, c.in_ok-name.ensures) at (c.tell.ensures.begun is)) in
          joined_new (joined c) e c.tell.new.self is refl refl refl renews
      | inr other ↦ rw (c.tell.ensures.kept other, touched) (rw (← c.self.view_is) at (joined_old (joined c) other))
    ]
