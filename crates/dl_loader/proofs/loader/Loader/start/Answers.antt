use Rattle.std.proofs.Common.{◌∙◌, ap, sym}
use Rattle.dl_loader.proofs.Sources.{source_answers}
use Rattle.dl_loader.proofs.loader.Loader.start.Goals as goal

pub invariant_of-loader : goal.invariant_of-loader
invariant_of-loader g c =
    let names = c.requires.names in
    let callers = sym c.opening.invariant.parts_are ∙ ap (λ o. o.callers) c.opening.view_is in
    record {
      callers_are = callers ∙ names.callers;
      waiters_are = c.in_ok-resize_with.ensures.len ∙ callers ∙ names.callers;
      parts_are = sym names.parts_are ∙ names.callers;
      answers = source_answers (g.S.Source.answer c.args.opening.source) g.L.LoaderName.service.answer (g.met.S.Source.fits c.args.opening.source)
          names.no_more;
    }
