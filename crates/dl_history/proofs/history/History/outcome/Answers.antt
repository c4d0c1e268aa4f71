use Rattle.std.proofs.Common.{◌≡◌, ap, subst, Bor, List, option_copied}
use Rattle.dl_desk.specs.Events.{outcome}
use Rattle.dl_values.specs.declared.outcome.Outcome.{Outcome}
use Rattle.dl_history.specs.ClosedHistory.{History, IsHistory}
use Rattle.dl_history.specs.History.{past}
use Rattle.dl_history.specs.LoaderState.{loader_state}
use Rattle.dl_desk.specs.declared.event.Event.{Event}
use Rattle.dl_history.proofs.CellOutcomes.{kept_outcome, outcome_begun}
use Rattle.dl_history.proofs.history.History.outcome.Goals as goal

pub returns-clause-given : goal.returns-clause-given
returns-clause-given c =
    let inside = c.self.inside in
    let given = kept_outcome c.self.invariant.0 (loader_state inside.events inside.desk.book inside.cells) c.args.cell (option_copied c.outcome.result)
    c.self.invariant.1.kept c.outcome.ensures in
    subst (λ (es : List Event). option_copied c.outcome.result ≡ outcome (past es) c.args.cell) (ap (λ (h : History). h.events) c.self.view_is) given

pub returns-clause-begun : goal.returns-clause-begun
returns-clause-begun c =
    let closed = subst (IsHistory c.self.invariant.0) c.self.view_is c.self.invariant.1.history_is in
    let given : option_copied c.outcome.result ≡ outcome (past c.args.self.now.events) c.args.cell = returns-clause-given c in
    outcome_begun (λ (o : Bor Outcome). o.now) c.outcome.result c.self.invariant.0 c.args.self.now.events c.args.cell c.self.invariant.1.answers closed.legal
    closed.ended given
