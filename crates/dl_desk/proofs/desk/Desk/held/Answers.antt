use Rattle.std.proofs.Common.{◌∙◌, sym, ap}
use Rattle.std.specs.Map.{lookup}
use Rattle.dl_values.specs.Key.{key_eq}
use Rattle.dl_desk.specs.BatchBook.{Desk}
use Rattle.dl_desk.proofs.MemoView.{lookup-take_none, lookup-take_in, lookup-take_out}
use Rattle.dl_desk.proofs.desk.Desk.held.Goals as goal

pub returns-in_err-index : goal.returns-in_err-index
returns-in_err-index c = λ history stands.
    c.from_residual.ensures
    ∙ (sym (lookup-take_none (key_eq c.args.key.now) c.self.inside.memo.entries c.self.inside.shown_memo (sym c.in_err-index.ensures.value))
    ∙ (ap (λ (d : Desk). lookup (key_eq c.args.key.now) d.book.memo) c.self.view_is ∙ stands.memo c.args.key.now))

pub returns-then-index-self : goal.returns-then-index-self
returns-then-index-self c = λ history stands.
    sym (lookup-take_in (key_eq c.args.key.now) c.self.inside.memo.entries c.self.inside.shown_memo c.in_ok-index.index c.in_ok-index.cell.now
    (sym c.in_ok-index.ensures.index) (sym c.in_ok-index.ensures.value) c.if-index-self.true)
    ∙ (ap (λ (d : Desk). lookup (key_eq c.args.key.now) d.book.memo) c.self.view_is ∙ stands.memo c.args.key.now)

pub returns-else-index-self : goal.returns-else-index-self
returns-else-index-self c = λ history stands.
    sym (lookup-take_out (key_eq c.args.key.now) c.self.inside.memo.entries c.self.inside.shown_memo c.in_ok-index.index (sym c.in_ok-index.ensures.index)
    c.if-index-self.false)
    ∙ (ap (λ (d : Desk). lookup (key_eq c.args.key.now) d.book.memo) c.self.view_is ∙ stands.memo c.args.key.now)
