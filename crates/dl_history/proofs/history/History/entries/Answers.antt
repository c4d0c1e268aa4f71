use Rattle.std.proofs.Common.{◌∙◌, ap, map, subst}
use Rattle.dl_history.specs.Agreement.{entries_of}
use Rattle.dl_history.specs.ClosedHistory.{History, IsHistory, kinds_of}
use Rattle.dl_history.specs.Entries.{kind_of}
use Rattle.dl_history.proofs.HistoryLemmas.{kinds_told, caller_agrees, caller_none}
use Rattle.dl_history.proofs.history.History.entries.Goals as goal

pub returns-clause-entries : goal.returns-clause-entries
returns-clause-entries c =
    c.kinds_of.ensures ∙ (ap (kinds_of c.args.caller) c.as_slice.ensures.value ∙ (kinds_told c.self.inside.events c.args.caller c.self.inside.outlines.items
    ∙ ap (λ (h : History). map kind_of (entries_of c.args.caller h.accounts)) c.self.view_is))

pub returns-clause-agree : goal.returns-clause-agree
returns-clause-agree c =
    caller_agrees c.self.invariant.0 c.args.caller c.args.self.now (subst (IsHistory c.self.invariant.0) c.self.view_is c.self.invariant.1.history_is)

pub returns-clause-none : goal.returns-clause-none
returns-clause-none c high =
    let closed = subst (IsHistory c.self.invariant.0) c.self.view_is c.self.invariant.1.history_is in
    returns-clause-entries c ∙ ap (map kind_of) (caller_none c.self.invariant.0 c.args.caller c.args.self.now closed high)
