use Rattle.std.proofs.Common.{◌∙◌, ap, List}
use Rattle.dl_values.specs.Key.{Key}
use Rattle.dl_loader.proofs.JobNow.{no_keys}
use Rattle.dl_loader.proofs.host_job.job_of.Goals as goal

pub returns-in_default : goal.returns-in_default
returns-in_default g c =
    ap (λ (ks : List Key). record { batch = c.args.batch; keys = ks }) c.in_ok-keys.ensures
    ∙ no_keys g.L.LoaderName.service c.args.loader.now c.args.batch c.keeps.ensures c.in_default.ensures.none
