-- Jobs that are handed over to fetch workers, one after another.
use Rattle.std.proofs.Common.{◌≡◌, ◌∙◌, ap, subst, refl, ℕ, List, [], ◌∷◌, ◌++◌, append_assoc, inl, inr}
use Rattle.dl_values.specs.declared.job.Job.{Job}
use Rattle.dl_values.specs.declared.outcome.BatchFault.TheVariants.{Unsent}
use Rattle.dl_history.specs.Entries.{Entry}
use Rattle.dl_desk.specs.Service.{Service}
use Rattle.dl_desk.specs.declared.event.Call.TheVariants.{Fail}
use Rattle.dl_desk.specs.declared.event.Reply.TheVariants.{Done}
use Rattle.dl_loader.specs.Additions.{call_entry}
use Rattle.dl_loader.specs.EventEffect.{WasMade}
use Rattle.dl_loader.specs.Pass.{Trace}
use Rattle.dl_loader.proofs.AdditionLemmas.{made_adds}
use Rattle.dl_haxl.specs.Rounds.{AddsAndSends, HandedOver}

-- one job more, which was sent
one_sent : (caller : ℕ) (jobs : List Job) (job : Job) (sent : List Job) (ends : List Entry) → HandedOver caller jobs sent ends
    → HandedOver caller (jobs ++ job ∷ []) (sent ++ job ∷ []) ends
one_sent caller [] job sent ends (unsent, none) = inl ([], ap (λ js. js ++ job ∷ []) unsent, (refl, none))
one_sent caller (x ∷ jobs) job sent ends (inl (rest, is, over)) =
    inl (rest ++ job ∷ [], ap (λ js. js ++ job ∷ []) is, one_sent caller jobs job rest ends over)
one_sent caller (x ∷ jobs) job sent ends (inr (at, rest, is, over)) = inr (at, rest, is, one_sent caller jobs job sent rest over)

-- one that came back
one_back : (caller at : ℕ) (jobs : List Job) (job : Job) (sent : List Job) (ends : List Entry) → HandedOver caller jobs sent ends
    → HandedOver caller (jobs ++ job ∷ []) sent (ends ++ call_entry caller at (Fail job.batch Unsent) Done ∷ [])
one_back caller at [] job sent ends (unsent, none) =
    inr (at, [], ap (λ ls. ls ++ call_entry caller at (Fail job.batch Unsent) Done ∷ []) none, (unsent, refl))
one_back caller at (x ∷ jobs) job sent ends (inl (rest, is, over)) = inl (rest, is, one_back caller at jobs job rest ends over)
one_back caller at (x ∷ jobs) job sent ends (inr (place, rest, is, over)) =
    let last : List Entry = call_entry caller at (Fail job.batch Unsent) Done ∷ [] in
    inr (place, rest ++ last, ap (λ ls. ls ++ last) is, one_back caller at jobs job sent rest over)

abbrev pub Hands : Trace → Trace → List Job → List Job → List Job → Type 0
Hands old new before after jobs = AddsAndSends old new before after (λ ends sent. HandedOver old.caller jobs sent ends)

pub hands_sent : (old now : Trace) (before next after jobs : List Job) (job : Job) → Hands old now before next jobs → after ≡ next ++ job ∷ []
    → Hands old now before after (jobs ++ job ∷ [])
hands_sent old now before next after jobs job (sent, so_far, added) then =
    let more : after ≡ before ++ (sent ++ job ∷ []) = then ∙ (ap (λ js. js ++ job ∷ []) so_far ∙ append_assoc before sent (job ∷ [])) in
    (sent ++ job ∷ [], more, (added.0, added.1, added.2, one_sent old.caller jobs job sent added.1 added.3))

pub hands_back : (s : Service) (old now new : Trace) (before next after jobs : List Job) (job back : Job) → Hands old now before next jobs
    → (back ≡ job) × (after ≡ next) → WasMade s now (Fail back.batch Unsent) Done new → Hands old new before after (jobs ++ job ∷ [])
hands_back s old now new before next after jobs job back (sent, so_far, added) (is, same) made =
    let one = made_adds s now new (Fail job.batch Unsent) Done (subst (λ j. WasMade s now (Fail j.batch Unsent) Done new) is made) in
    let last : List Entry = call_entry old.caller one.0 (Fail job.batch Unsent) Done ∷ [] in
    let own : call_entry now.caller one.0 (Fail job.batch Unsent) Done ∷ [] ≡ last = ap (λ c. call_entry c one.0 (Fail job.batch Unsent) Done ∷ []) added.0 in
    let entries : new.entries ≡ old.entries ++ (added.1 ++ last) =
    one.2 ∙ (ap (λ ls. now.entries ++ ls) own ∙ (ap (λ ls. ls ++ last) added.2 ∙ append_assoc old.entries added.1 last)) in
    (sent, same ∙ so_far, (one.1 ∙ added.0, added.1 ++ last, entries, one_back old.caller one.0 jobs job sent added.1 added.3))
