use Rattle.std.proofs.Common.{◌≡◌, ◌∙◌, sym, None, refl}
use Rattle.std.specs.Map.{lookup}
use Rattle.std.proofs.lemmas.Result.{IfOk-from_err}
use Rattle.dl_values.specs.Key.{key_eq}
use Rattle.dl_desk.proofs.FieldMarks.{desk_noted}
use Rattle.dl_desk.proofs.TwoBooks.{lookup-noted}
use Rattle.dl_desk.proofs.desk.Desk.put_alone.Goals as goal

pub invariant_of-self-2 : goal.invariant_of-self-2
invariant_of-self-2 c =
    let noted = rw c.in_ok-try_copy.ensures at (c.in_ok-held.ensures.noted c.in_default.is) in
    rw noted (desk_noted _ (c.args.key.now, c.self.inside.prepared.cells) c.self.invariant (rw (← c.self.view_is) at c.requires.not_full))

pub returns-clause-put : goal.returns-clause-put
returns-clause-put c =
    let none = c.in_default.is in
    let noted = rw c.in_ok-try_copy.ensures at (c.in_ok-held.ensures.noted none) in
    let not_held : lookup (key_eq c.args.key.now) c.self.inside.memo.entries ≡ None = rw c.in_ok-try_copy.ensures at (sym c.in_ok-held.ensures.held ∙ none) in (
      rw (← c.self.view_is) not_held,
      rw (← c.self.view_is) refl,
      rw (← c.self.view_is, noted) (record {
        rules = refl;
        cells = refl;
        sent = refl;
        memo = λ q. lookup-noted c.self.inside.memo.entries c.args.key.now q c.self.inside.prepared.cells not_held;
        batches = refl;
      }),
    )

pub returns-in_err-try_copy-clause-put : goal.returns-in_err-try_copy-clause-put
returns-in_err-try_copy-clause-put c = IfOk-from_err _ _ c.from_residual.ensures.0

pub returns-in_err-held-clause-put : goal.returns-in_err-held-clause-put
returns-in_err-held-clause-put c = IfOk-from_err _ _ c.from_residual-in_err-held.ensures.0

pub returns-in-Some-clause-put : goal.returns-in-Some-clause-put
returns-in-Some-clause-put c =
    let held = rw c.in_ok-try_copy.ensures at (sym c.in_ok-held.ensures.held ∙ c.in-Some.is) in
    (rw (← c.self.view_is, held) refl, rw (c.in_ok-held.ensures.kept (rw c.in-Some.is refl), ← c.self.view_is) refl)
