use Rattle.std.proofs.Common.{subst, sym, ◌∙◌, ap}
use Rattle.dl_history.specs.Pass.{Trace}
use Rattle.dl_loader.specs.EventEffect.{WasMade}
use Rattle.dl_loader.proofs.book.Book.make_known.Goals as goal
use Rattle.dl_loader.proofs.book.Book.make_known.Goals.{then-made-gt0, else-made-gt0}

-- the pass is as the call left it, whether a cell refused its outcome or not
pub returns-clause-made : goal.returns-clause-made
returns-clause-made g c =
    let made = c.in_ok-made.ensures.made in
    let After = λ (t : Trace). WasMade g.L.LoaderName.service c.args.pass.now.trace (g.C.EventCall.call c.args.call.now)
    (g.C.EventCall.told c.in_ok-made.made.0) t in
    elim c.if-made-gt0.branch [
      | then-made-gt0 w ↦ subst After (sym (ap (λ p. p.trace) w.pass-is ∙ w.refuse.ensures.trace)) made
      | else-made-gt0 w ↦ subst After (sym (ap (λ p. p.trace) w.pass-is)) made
    ]
