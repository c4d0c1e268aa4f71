use Rattle.std.proofs.Common.{◌≡◌, ◌∙◌, ◌+◌, ap, sym, length, slice_get, List, arith}
use Rattle.dl_history.specs.Flags.{KnownFlags}
use Rattle.dl_history.specs.Pass.{Trace}
use Rattle.dl_loader.proofs.SerialLemmas.{new_count, new_numbered}
use Rattle.dl_loader.proofs.Sources.{source_answers}
use Rattle.dl_loader.proofs.serial_loader.SerialLoader.start.Goals as goal

pub invariant_of-loader : goal.invariant_of-loader
invariant_of-loader g c =
    let names = c.requires.names in
    let own = g.L.LoaderName.service in
    let callers = sym c.opening.invariant.parts_are ∙ ap (λ o. o.callers) c.opening.view_is in
    let traces = c.in_ok-passes.ensures in
    record {
      callers_are = callers ∙ names.callers;
      parts_are = sym names.parts_are ∙ names.callers;
      answers = source_answers (g.S.Source.answer c.args.opening.source) own.answer (g.met.S.Source.fits c.args.opening.source) names.no_more;
      unstopped = ap (λ (f : KnownFlags). f.stopped) c.new-book.ensures.flags;
      each = ap length traces ∙ new_count 0 own.callers;
      numbered = λ n p got.
          let at : 0 + n ≡ n = omega arith in
          new_numbered 0 own.callers n p (ap (λ (ps : List Trace). slice_get ps n) (sym traces) ∙ got) ∙ at;
    }
