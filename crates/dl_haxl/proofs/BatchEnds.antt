-- Jobs whose batches are ended, one after another.
use Rattle.std.proofs.Common.{◌≡◌, ◌∙◌, ap, subst, ℕ, List, [], ◌∷◌, ◌++◌, append_assoc}
use Rattle.dl_values.specs.declared.job.Job.{Job}
use Rattle.dl_history.specs.Entries.{Entry}
use Rattle.dl_desk.specs.Service.{Service}
use Rattle.dl_loader.specs.Pass.{Trace}
use Rattle.dl_loader.specs.JobEnd.{AreEndsOf, IsEndOf, WasEnded}
use Rattle.dl_loader.proofs.EndEntries.{end_adds}
use Rattle.dl_haxl.specs.Rounds.{AddsAndSends, EndedInline}

-- one job more
one_ended : (s : Service) (caller : ℕ) (jobs : List Job) (job : Job) (ends : List Entry) (l : Entry) → AreEndsOf s caller jobs ends → IsEndOf s caller job l
    → AreEndsOf s caller (jobs ++ job ∷ []) (ends ++ l ∷ [])
one_ended s caller [] job [] l ended end = (end, tt)
one_ended s caller [] job (x ∷ ends) l ended end = absurd ended
one_ended s caller (j ∷ jobs) job [] l ended end = absurd ended
one_ended s caller (j ∷ jobs) job (x ∷ ends) l ended end = (ended.0, one_ended s caller jobs job ends l ended.1 end)

abbrev pub EndsJobs : Service → Trace → Trace → List Job → Type 0
EndsJobs s old new jobs = AddsAndSends old new [] [] (λ ends sent. EndedInline s old.caller jobs sent ends)

pub ends_more : (s : Service) (old now new : Trace) (jobs : List Job) (job : Job) → EndsJobs s old now jobs → WasEnded s now job new
    → EndsJobs s old new (jobs ++ job ∷ [])
ends_more s old now new jobs job (sent, unsent, added) ended =
    let one = end_adds s now new job ended in
    let l : Entry = one.3.0 in
    let entries : new.entries ≡ old.entries ++ (added.1 ++ l ∷ []) =
    one.2 ∙ (ap (λ ls. now.entries ++ ls) one.3.1 ∙ (ap (λ ls. ls ++ l ∷ []) added.2 ∙ append_assoc old.entries added.1 (l ∷ []))) in
    let end : IsEndOf s old.caller job l = subst (λ c. IsEndOf s c job l) added.0 one.3.2 in
    (sent, unsent, (one.0 ∙ added.0, added.1 ++ l ∷ [], entries, (added.3.0, one_ended s old.caller jobs job added.1 l added.3.1 end)))
