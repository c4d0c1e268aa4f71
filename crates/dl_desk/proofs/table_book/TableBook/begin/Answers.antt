use Rattle.std.proofs.Common.{◌≡◌, ◌∙◌, ap, ℕ, List, set, cond, Some, None, inr, bytes_eq, refl, arith}
use Rattle.dl_values.proofs.Errors.{on_err}
use Rattle.dl_desk.specs.declared.table_book.Newest.{Newest}
use Rattle.dl_desk.specs.Inside.TableMap.{told_in}
use Rattle.dl_desk.specs.Inside.TableBook.{TableBook, TellsTheSame}
use Rattle.dl_desk.proofs.TablePlaces.{told-changed, told-kept}
use Rattle.dl_desk.proofs.table_book.TableBook.begin.Goals as goal

pub returns-clause-renews : goal.returns-clause-renews
returns-clause-renews c = rw (← c.self.view_is) (record {
  limits = refl;
  newest = λ q. told-changed c.add_places.new.places.items c.args.table.now c.place.result c.index_mut.result.now c.index_mut.ensures.value _ c.insert.new.self
      c.place.ensures (let e = c.in_ok-add_places.ensures.enough in omega arith) c.in_ok-insert.ensures.tells q
      ∙ ap (cond (bytes_eq c.args.table.now q) (Some (record { most = c.most.result; latest = c.args.next; before = None })))
      (c.in_ok-add_places.ensures.told q);
  touched = refl;
})

pub returns-clause-newest : goal.returns-clause-newest
returns-clause-newest c = inr (c.requires, rw (c.most.ensures, ← c.self.view_is, c.as_str.ensures) refl)

same_book : (old : TableBook) (newest : List (List (List ℕ × Newest))) → ((q : List ℕ) → told_in newest q ≡ told_in old.newest q)
    → TellsTheSame old (record { limits = old.limits; newest = newest; touched = old.touched })
same_book old newest same = record { limits = refl; newest = same; touched = refl }

pub returns-in_err-insert-clause-err : goal.returns-in_err-insert-clause-err
returns-in_err-insert-clause-err c =
    let old : TableBook = record { limits = c.self.inside.limits; newest = c.self.inside.newest.items; touched = c.self.inside.touched.items } in
    let same = same_book old (set c.add_places.new.places.items c.place.result c.insert.new.self) (λ q.
    ap (λ (place : List (List ℕ × Newest)). told_in (set c.add_places.new.places.items c.place.result place) q) c.in_err-insert.ensures.err
    ∙ told-kept c.add_places.new.places.items c.args.table.now c.place.result c.index_mut.result.now c.index_mut.ensures.value q
    ∙ c.in_ok-add_places.ensures.told q) in
    rw (← c.self.view_is) (on_err _ same)

pub returns-in_err-add_places-clause-err : goal.returns-in_err-add_places-clause-err
returns-in_err-add_places-clause-err c =
    let old : TableBook = record { limits = c.self.inside.limits; newest = c.self.inside.newest.items; touched = c.self.inside.touched.items } in
    let same = same_book old c.add_places.new.places.items c.in_err-add_places.ensures.told in
    rw (← c.self.view_is) (on_err _ same)
