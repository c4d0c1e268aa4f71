-- What contracts see of a run.
use Rattle.std.specs.declared.sync.ledger.Ledger.{Ghosts as LedgerGhosts}
use Rattle.dl_history.specs.declared.name.LoaderName.{Ghosts}
use Rattle.dl_terms.specs.Node.{node_view}
use Rattle.dl_terms.specs.Asked.{pairs_of, wanted_of}
use Rattle.dl_haxl.specs.Run.{Run, run_at}
use Rattle.dl_haxl.specs.declared.run.TermRun.{TermRun}

abbrev pub seen : {L : Type 0} {own : Ghosts L} {ledger : LedgerGhosts L} → TermRun L own ledger → Run
seen r = run_at r.stage (node_view r.root) (pairs_of r.asked) (wanted_of r.asked) r.tickets.items
