-- A round from its steps.
use Rattle.std.proofs.Common.{◌≡◌, ◌∙◌, ap, sym, subst, refl, ℕ, ◌+◌, ◌<◌, ◌≤◌, false, List, [], ◌∷◌, ◌++◌, map, length, slice_get, Some, arith, append_assoc}
use Rattle.std.proofs.Common.{rules}
use Rattle.std.proofs.lemmas.List.{length-map}
use Rattle.dl_values.specs.Key.{Key}
use Rattle.dl_values.specs.declared.job.Job.{Job}
use Rattle.dl_history.specs.Entries.{Entry, Called, event_at, entry_front, front_of}
use Rattle.dl_desk.specs.Service.{Service}
use Rattle.dl_desk.specs.declared.event.Call.{Call}
use Rattle.dl_desk.specs.declared.event.Reply.{Reply}
use Rattle.dl_desk.specs.declared.event.Call.TheVariants.{LoadMany, Dispatch}
use Rattle.dl_desk.specs.declared.event.Reply.TheVariants.{Many, Sent}
use Rattle.dl_loader.specs.Additions.{call_entry, saws, Grows, KeepsTickets}
use Rattle.dl_loader.specs.EventEffect.{WasMade, event_of, loads_of}
use Rattle.dl_loader.specs.Pass.{Trace, Ticket, GaveTickets, with_call}
use Rattle.dl_loader.proofs.AdditionLemmas.{made_adds, gave_still, grows_after}
use Rattle.dl_history.proofs.Tickets.{tickets_entries}
use Rattle.dl_loader.proofs.TicketsStay.{keeps_same, number_low}
use Rattle.dl_haxl.specs.Pairs.{outcomes_shown}
use Rattle.dl_haxl.specs.Inside.Reads.{KeepsOthers, Reads}
use Rattle.dl_haxl.specs.Rounds.{AddsAndSends, Round, SentMore}
use Rattle.dl_haxl.proofs.TicketReads.{reply_of, known_of, reads_shown}

-- tickets that were given are given still, while the pass keeps its tickets
pub still_gave : (p q : Trace) (first : ℕ) (ts : List Ticket) → q.tickets ≡ p.tickets → GaveTickets p first ts → GaveTickets q first ts
still_gave p q first ts same gave = record {
  numbered = gave.numbered;
  gave = λ i t is. gave_still p q t false same (gave.gave i t is);
}

-- older tickets stand as they stood, where tickets were given after them and those alone were read
pub round_keeps : (old loaded ended new : Trace) (ts us : List Ticket) → KeepsTickets old loaded → GaveTickets loaded (length old.tickets) ts
    → us ≡ ts → ended.tickets ≡ loaded.tickets → KeepsOthers us ended new → KeepsTickets old new
round_keeps old loaded ended new ts us keeps gave same ends others = λ n g is.
    let low = number_low old.tickets n g is in
    let there = keeps_same loaded ended ends n g (keeps n g is) in
    others n g (λ i t at number.
    let one = gave.numbered i t (ap (λ hs. slice_get hs i) (sym same) ∙ at) in
    let bad : length old.tickets + i ≡ n = sym one ∙ number in
    omega (arith, low, bad)) there

-- ---- the front

pub front_more : (xs ys : List Entry) → front_of xs ≤ front_of (xs ++ ys)
front_more [] ys = omega arith
front_more (x ∷ xs) ys = let more = front_more xs ys in omega (arith, more)

front_last : (xs : List Entry) (l : Entry) → entry_front l ≤ front_of (xs ++ l ∷ [])
front_last [] l = omega arith
front_last (x ∷ xs) l = let more = front_last xs l in omega (arith, more)

pub grown_front : (p q : Trace) → Grows p q → front_of p.entries ≤ front_of q.entries
grown_front p q (caller, lines, added) = subst (λ ls. front_of p.entries ≤ front_of ls) (sym added) (front_more p.entries lines)

-- a call stands at a place that is not before what the pass had seen
pub made_front : (s : Service) (old new : Trace) (call : Call) (reply : Reply) → WasMade s old call reply new → front_of old.entries < front_of new.entries
made_front s old new call reply (before, now, kept, keeps, after, made) =
    let called : Trace = with_call old (length before.history) (event_of old call reply) in
    let entries : new.entries ≡ called.entries = ap (λ (p : Trace). p.entries) made.trace ∙ tickets_entries called (loads_of reply) in
    let one = Called (event_at (length before.history) (event_of old call reply)) in
    let last : length before.history + 1 ≤ front_of called.entries = front_last old.entries one in
    let most : length before.history + 1 ≤ front_of new.entries = subst (λ ls. length before.history + 1 ≤ front_of ls) (sym entries) last in
    omega (arith, after, most)

pub made_grows : (s : Service) (old new : Trace) (call : Call) (reply : Reply) → WasMade s old call reply new → Grows old new
made_grows s old new call reply made =
    let added = made_adds s old new call reply made in
    (added.1, call_entry old.caller added.0 call reply ∷ [], added.2)

pub two_grow : (s : Service) (old loaded dispatched : Trace) (call sent : Call) (reply jobs : Reply) → WasMade s old call reply loaded
    → WasMade s loaded sent jobs dispatched → Grows old dispatched
two_grow s old loaded dispatched call sent reply jobs made made2 =
    grows_after old loaded dispatched (made_grows s old loaded call reply made) (made_grows s loaded dispatched sent jobs made2)

-- ---- the round

one_more : (xs ys ends reads : List Entry) (a b : Entry) → ys ≡ (((xs ++ a ∷ []) ++ b ∷ []) ++ ends) ++ reads → ys ≡ xs ++ (a ∷ b ∷ (ends ++ reads))
one_more xs ys ends reads a b is =
    is ∙ (append_assoc ((xs ++ a ∷ []) ++ b ∷ []) ends reads
    ∙ (append_assoc (xs ++ a ∷ []) (b ∷ []) (ends ++ reads) ∙ append_assoc xs (a ∷ []) (b ∷ (ends ++ reads))))

-- The steps of a round: a loadMany with its tickets, a dispatch, what became of its jobs, and the reads of the tickets, which are others then.
pub record Steps (JobsEnd : ℕ → List Job → List Job → List Entry → Type 0) (s : Service) (old new : Trace) (before after : List Job)
    (wanted : List Key) (ts us : List Ticket) : Type 0 where
  pub loaded : Trace
  pub dispatched : Trace
  pub ended : Trace
  pub jobs : List Job
  pub load : WasMade s old (LoadMany wanted) (Many (map reply_of ts)) loaded
  pub each : length ts ≡ length wanted
  pub dispatch : WasMade s loaded Dispatch (Sent jobs) dispatched
  pub gives_out : AddsAndSends dispatched ended before after (λ ends sent. JobsEnd dispatched.caller jobs sent ends)
  pub reads : Reads ended new ts us

module _ (JobsEnd : ℕ → List Job → List Job → List Entry → Type 0) (s : Service) (old new : Trace) (before after : List Job)
    (ks : List Key) (ts us : List Ticket) (steps : Steps JobsEnd s old new before after ks ts us) where
  pub round_made : AddsAndSends old new before after (λ lines sent. Round (JobsEnd old.caller) old.caller ks lines (outcomes_shown us) sent)
  round_made =
      let first = made_adds s old steps.loaded (LoadMany ks) (Many (map reply_of ts)) steps.load in
      let second = made_adds s steps.loaded steps.dispatched Dispatch (Sent steps.jobs) steps.dispatch in
      let sent = steps.gives_out.0 in
      let third = steps.gives_out.2 in
      let caller : steps.dispatched.caller ≡ old.caller = second.1 ∙ first.1 in
      let load : Entry = call_entry old.caller first.0 (LoadMany ks) (Many (map reply_of ts)) in
      let dispatch : Entry = call_entry old.caller second.0 Dispatch (Sent steps.jobs) in
      let dispatched_is : steps.dispatched.entries ≡ (old.entries ++ load ∷ []) ++ dispatch ∷ [] =
      second.2 ∙ (ap (λ ls. ls ++ call_entry steps.loaded.caller second.0 Dispatch (Sent steps.jobs) ∷ []) first.2
      ∙ ap (λ c. (old.entries ++ load ∷ []) ++ call_entry c second.0 Dispatch (Sent steps.jobs) ∷ []) first.1) in
      let reads_of = saws (map reply_of ts) steps.reads.endings in
      let entries : new.entries ≡ (((old.entries ++ load ∷ []) ++ dispatch ∷ []) ++ third.1) ++ reads_of =
      steps.reads.entries ∙ ap (λ ls. ls ++ reads_of) (third.2 ∙ ap (λ ls. ls ++ third.1) dispatched_is) in
      let long : length us ≡ length ts = sym (length-map us reply_of) ∙ (ap length steps.reads.replies ∙ length-map ts reply_of) in
      let round : Round (JobsEnd old.caller) old.caller ks (load ∷ dispatch ∷ (third.1 ++ reads_of)) (outcomes_shown us) sent = record {
        load_at = first.0;
        dispatch_at = second.0;
        replies = map reply_of ts;
        jobs = steps.jobs;
        ends = third.1;
        endings = steps.reads.endings;
        reply_each = length-map ts reply_of ∙ steps.each;
        read_each = sym (length-map steps.reads.endings Some) ∙ (ap length (sym steps.reads.known) ∙ (length-map us known_of ∙ (long ∙ steps.each)));
        jobs_end = subst (λ c. JobsEnd c steps.jobs sent third.1) caller third.3;
        tells = refl;
        outcomes_are = (reads_shown us steps.reads.endings steps.reads.known).1;
      } in (
        sent,
        steps.gives_out.1,
        (
          steps.reads.caller ∙ (third.0 ∙ caller),
          load ∷ dispatch ∷ (third.1 ++ reads_of),
          one_more old.entries new.entries third.1 reads_of load dispatch entries,
          round,
        ),
      )

  pub round_front : front_of old.entries < front_of new.entries
  round_front =
      let third = steps.gives_out.2 in
      let loads = made_front s old steps.loaded (LoadMany ks) (Many (map reply_of ts)) steps.load in
      let dispatches = grown_front steps.loaded steps.dispatched (made_grows s steps.loaded steps.dispatched Dispatch (Sent steps.jobs) steps.dispatch) in
      let ends = grown_front steps.dispatched steps.ended (third.0, third.1, third.2) in
      let last = grown_front steps.ended new (steps.reads.caller, saws (map reply_of ts) steps.reads.endings, steps.reads.entries) in
      omega (arith, loads, dispatches, ends, last)

pub none_sent : (jobs : List Job) → SentMore jobs jobs
none_sent jobs = ([], search rules)
