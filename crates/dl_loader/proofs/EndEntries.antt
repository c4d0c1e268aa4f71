-- What the ends of jobs add to the entries of a pass.
use Rattle.std.proofs.Common.{◌≡◌, ◌∙◌, ap, subst, sym, refl, ℕ, List, [], ◌∷◌, ◌++◌, length, arith, append_assoc, append-nil, inl, inr, ◌⊎◌}
use Rattle.dl_values.specs.declared.job.Job.{Job}
use Rattle.dl_values.specs.declared.outcome.BatchAnswer.{BatchAnswer}
use Rattle.dl_values.specs.declared.outcome.BatchAnswer.TheVariants.{Each, Break}
use Rattle.dl_history.specs.Entries.{Entry}
use Rattle.dl_desk.specs.Service.{Service}
use Rattle.dl_desk.specs.declared.event.Call.{Call}
use Rattle.dl_desk.specs.declared.event.Reply.TheVariants.{Done}
use Rattle.dl_loader.specs.Additions.{call_entry, Adds}
use Rattle.dl_loader.specs.Asks.{end_by}
use Rattle.dl_loader.specs.Pass.{Trace}
use Rattle.dl_loader.proofs.AdditionLemmas.{made_adds}
use Rattle.dl_loader.specs.JobEnd.{AreEndsOf, IsEndOf, WasEnded, WereEnded, IsEndAnswered, end_unanswered}
use Rattle.dl_loader.specs.Dispatches.{dispatched, dispatched_by, events_told, unsent, unsent_by}

-- the end of a job is one entry
pub end_adds : (s : Service) (old new : Trace) (job : Job) → WasEnded s old job new
    → Adds old new (λ lines. (l : Entry) × (lines ≡ l ∷ []) × IsEndOf s old.caller job l)
end_adds s old new job (inl (call, is, made)) =
    let added = made_adds s old new call Done made in
    let l : Entry = call_entry old.caller added.0 call Done in
    (added.1, l ∷ [], added.2, (l, refl, (added.0, call, inl is, refl)))
end_adds s old new job (inr made) =
    let added = made_adds s old new (end_unanswered job) Done made in
    let l : Entry = call_entry old.caller added.0 (end_unanswered job) Done in
    (added.1, l ∷ [], added.2, (l, refl, (added.0, end_unanswered job, inr refl, refl)))

-- the ends of jobs are one entry each, in order, and no other
pub ended_adds : (s : Service) (old new : Trace) (jobs : List Job) → WereEnded s old jobs new → Adds old new (λ lines. AreEndsOf s old.caller jobs lines)
ended_adds s old new [] same =
    (ap (λ (p : Trace). p.caller) same, [], ap (λ (p : Trace). p.entries) same ∙ sym (append-nil old.entries), tt)
ended_adds s old new (job ∷ jobs) (next, first, rest) =
    let one = end_adds s old next job first in
    let more = ended_adds s next new jobs rest in
    let l : Entry = one.3.0 in
    let entries : new.entries ≡ old.entries ++ (l ∷ more.1) =
    more.2 ∙ (ap (λ ls. ls ++ more.1) (one.2 ∙ ap (λ ls. old.entries ++ ls) one.3.1) ∙ append_assoc old.entries (l ∷ []) more.1) in
    (more.0 ∙ one.0, l ∷ more.1, entries, (one.3.2, subst (λ c. AreEndsOf s c jobs more.1) one.0 more.3))

-- ---- what these entries tell

-- one call for each job, of which none is a dispatch or fails a batch as unsent
pub record TellEnds (jobs : List Job) (lines : List Entry) : Type 0 where
  pub entries : length lines ≡ length jobs
  pub calls : length (events_told lines) ≡ length jobs
  pub none_unsent : unsent (events_told lines) ≡ []
  pub none_dispatched : dispatched (events_told lines) ≡ []

answered_sent : (b : ℕ) (answer : BatchAnswer) → unsent_by (end_by b answer) ≡ []
answered_sent b (Each os) = refl
answered_sent b (Break text) = refl

answered_ends : (b : ℕ) (answer : BatchAnswer) → dispatched_by (end_by b answer) Done ≡ []
answered_ends b (Each os) = refl
answered_ends b (Break text) = refl

end_sent : (s : Service) (job : Job) (call : Call) → IsEndAnswered s job call ⊎ (call ≡ end_unanswered job) → unsent_by call ≡ []
end_sent s job call (inl is) = ap unsent_by is.2 ∙ answered_sent job.batch is.0
end_sent s job call (inr is) = ap unsent_by is

end_ends : (s : Service) (job : Job) (call : Call) → IsEndAnswered s job call ⊎ (call ≡ end_unanswered job) → dispatched_by call Done ≡ []
end_ends s job call (inl is) = ap (λ c. dispatched_by c Done) is.2 ∙ answered_ends job.batch is.0
end_ends s job call (inr is) = ap (λ c. dispatched_by c Done) is

pub tell_ends : (s : Service) (caller : ℕ) (jobs : List Job) (lines : List Entry) → AreEndsOf s caller jobs lines → TellEnds jobs lines
tell_ends s caller [] [] ends = record { entries = refl; calls = refl; none_unsent = refl; none_dispatched = refl }
tell_ends s caller [] (l ∷ lines) ends = absurd ends
tell_ends s caller (job ∷ jobs) [] ends = absurd ends
tell_ends s caller (job ∷ jobs) (l ∷ lines) ((at, call, kind, is), rest) =
    let more = tell_ends s caller jobs lines rest in
    let entries = more.entries in
    let calls = more.calls in
    let one : length (events_told (l ∷ lines)) ≡ length (events_told (call_entry caller at call Done ∷ lines)) =
    ap (λ x. length (events_told (x ∷ lines))) is in
    record {
      entries = omega (arith, entries);
      calls = one ∙ omega (arith, calls);
      none_unsent = ap (λ x. unsent (events_told (x ∷ lines))) is
          ∙ (ap (λ bs. bs ++ unsent (events_told lines)) (end_sent s job call kind) ∙ more.none_unsent);
      none_dispatched = ap (λ x. dispatched (events_told (x ∷ lines))) is
          ∙ (ap (λ js. js ++ dispatched (events_told lines)) (end_ends s job call kind) ∙ more.none_dispatched);
    }
