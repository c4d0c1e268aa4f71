use Rattle.std.proofs.Common.{◌≡◌, ◌∙◌, sym, None, ◌++◌, ◌∷◌, [], refl}
use Rattle.std.specs.Map.{lookup}
use Rattle.std.proofs.lemmas.Result.{IfOk-from_err}
use Rattle.dl_values.specs.Key.{key_eq}
use Rattle.dl_desk.specs.Inside.MemoPlaces.{IsAt}
use Rattle.dl_desk.proofs.FieldMarks.{desk_noted}
use Rattle.dl_desk.proofs.TwoBooks.{lookup-noted, may_join}
use Rattle.dl_desk.proofs.desk.Desk.put.Goals as goal

noted : (c : goal.In_ok-batch) → c.hold.new.memo.entries ≡ c.self.inside.memo.entries ++ (c.args.key.now, c.self.inside.prepared.cells) ∷ []
noted c = rw c.in_ok-try_copy.ensures at (c.in_ok-held.ensures.noted c.in_default.is)

not_held : (c : goal.In_ok-batch) → lookup (key_eq c.args.key.now) c.self.inside.memo.entries ≡ None
not_held c = rw c.in_ok-try_copy.ensures at (sym c.in_ok-held.ensures.held ∙ c.in_default.is)

pub invariant_of-self-2 : goal.invariant_of-self-2
invariant_of-self-2 c =
    let noted = rw c.in_ok-try_copy.ensures at (c.in_ok-held.ensures.noted c.in_default.is) in
    rw noted (desk_noted _ (c.args.key.now, c.self.inside.prepared.cells) c.self.invariant (rw (← c.self.view_is) at c.requires.not_full))

pub join-requires : goal.join-requires
join-requires c = record {
  may = may_join _ c.args.key.now _ c.self.invariant (rw c.in_ok-try_copy.ensures at (sym c.in_ok-held.ensures.held ∙ c.in_default.is)) refl refl
      (rw c.in_ok-try_copy.ensures at (c.in_ok-held.ensures.noted c.in_default.is));
}

pub returns-clause-put : goal.returns-clause-put
returns-clause-put c =
    let j = c.in_ok-batch.ensures.joins in (
      rw (← c.self.view_is) (not_held c),
      rw (← c.self.view_is) refl,
      rw (← c.self.view_is) j.room,
      rw (j.book, ← c.self.view_is, noted c) (record {
        rules = refl;
        cells = refl;
        sent = refl;
        memo = λ q. lookup-noted c.self.inside.memo.entries c.args.key.now q c.self.inside.prepared.cells (not_held c);
        batches = refl;
      }),
    )

pub returns-in_err-try_copy-clause-put : goal.returns-in_err-try_copy-clause-put
returns-in_err-try_copy-clause-put c = IfOk-from_err _ _ c.from_residual.ensures.0

pub returns-in_err-held-clause-put : goal.returns-in_err-held-clause-put
returns-in_err-held-clause-put c = IfOk-from_err _ _ c.from_residual-in_err-held.ensures.0

pub returns-in_err-batch-clause-put : goal.returns-in_err-batch-clause-put
returns-in_err-batch-clause-put c = IfOk-from_err _ _ c.from_residual-in_err-batch.ensures.0

-- the memo as it is after the key is held or noted
placed : (c : goal.In_ok-batch) → IsAt c.hold.new.memo.entries c.in_ok-held.place c.args.key.now
placed c = rw c.in_ok-try_copy.ensures at c.in_ok-held.ensures.place

pub returns-clause-place : goal.returns-clause-place
returns-clause-place c = rw c.in_ok-batch.ensures.joins.book (placed c)

pub returns-in-Some-clause-place : goal.returns-in-Some-clause-place
returns-in-Some-clause-place c = rw c.in_ok-try_copy.ensures at c.in_ok-held.ensures.place

pub returns-in_err-try_copy-clause-place : goal.returns-in_err-try_copy-clause-place
returns-in_err-try_copy-clause-place c = IfOk-from_err _ _ c.from_residual.ensures.0

pub returns-in_err-held-clause-place : goal.returns-in_err-held-clause-place
returns-in_err-held-clause-place c = IfOk-from_err _ _ c.from_residual-in_err-held.ensures.0

pub returns-in_err-batch-clause-place : goal.returns-in_err-batch-clause-place
returns-in_err-batch-clause-place c = IfOk-from_err _ _ c.from_residual-in_err-batch.ensures.0
