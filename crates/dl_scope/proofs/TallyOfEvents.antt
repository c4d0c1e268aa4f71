-- What the tally of the queue counts, by the events of the closed loader's history.
use Rattle.std.proofs.Common.{◌≡◌, ◌∙◌, ap, sym, refl, ℕ, ◌+◌, Bool, true, false, cond, List, [], ◌∷◌, length, map, flat_map, nat_le, count_by, arith}
use Rattle.std.proofs.lemmas.List.{length-map}
use Rattle.std.proofs.lemmas.List.Sums.{sum_by-cons}
use Rattle.dl_history.specs.Agreement.{Account}
use Rattle.dl_history.specs.ClosedHistory.{History, IsHistory}
use Rattle.dl_history.specs.Entries.{PlacedEvent, Entry, calls_of}
use Rattle.dl_history.specs.Lists.{one_if, total}
use Rattle.dl_desk.specs.Service.{Service}
use Rattle.dl_desk.specs.declared.event.Event.{Event}
use Rattle.dl_loader.specs.Pass.{Trace}
use Rattle.dl_loader.specs.Dispatches.{dispatched, dispatched_by, events_told, unsent, unsent_by}
use Rattle.dl_workers.specs.declared.queue.Tally.{Tally}
use Rattle.dl_scope.specs.Headline.{calls_after}
use Rattle.dl_scope.specs.Inside.ServedPlans.{IsCounted}
use Rattle.dl_scope.proofs.CallTotals.{calls_total, long_each, total-map, total_told}
use Rattle.dl_scope.proofs.PassPlaces.{part_account}

total_same : {X : Type 0} (f g : X → ℕ) (xs : List X) → ((x : X) → f x ≡ g x) → total f xs ≡ total g xs
total_same f g [] same = refl
total_same f g (x ∷ xs) same = let rest = total_same f g xs same in let one = same x in omega (arith, rest, one)

-- lists of events of calls, one after another
calls_long : {X : Type 0} (g : Event → List X) (lines : List Entry) → length (flat_map g (events_told lines)) ≡ total_told (λ e. length (g e)) (calls_of lines)
calls_long g lines =
    long_each g (events_told lines) ∙ total-map (λ (e : Event). length (g e)) (λ (t : PlacedEvent). t.event) (calls_of lines)

-- one for each call, or none
ones : (b : Bool) (ts : List PlacedEvent) → total (λ t. cond b 1 0) ts ≡ cond b (length ts) 0
ones true [] = refl
ones false [] = refl
ones true (t ∷ ts) = let rest = ones true ts in omega (arith, rest)
ones false (t ∷ ts) = let rest = ones false ts in omega (arith, rest)

ones_long : (n : ℕ) (p : Trace)
    → cond (nat_le n p.caller) (length (events_told p.entries)) 0 ≡ total_told (λ e. cond (nat_le n p.caller) 1 0) (calls_of p.entries)
ones_long n p =
    ap (λ k. cond (nat_le n p.caller) k 0) (length-map (calls_of p.entries) (λ (t : PlacedEvent). t.event))
    ∙ sym (ones (nat_le n p.caller) (calls_of p.entries))

pub ones_count : (test : Event → Bool) (es : List Event) → total (λ e. cond (test e) 1 0) es ≡ count_by test es
ones_count test [] = refl
ones_count test (e ∷ es) =
    let rest = ones_count test es in
    let all = sum_by-cons (λ (x : Event). one_if (test x)) e es in
    omega (arith, rest, all)

module _ (service : Service) (h : History) (closed : IsHistory service h) (traces : List Trace) (are : h.accounts ≡ map part_account traces) where
  -- what is added up over the calls of the traces is what it is over the events
  told_all : (w : ℕ → Event → ℕ) → total (λ p. total_told (w p.caller) (calls_of p.entries)) traces ≡ total (λ e. w e.caller e) h.events
  told_all w =
      sym (total-map (λ (a : Account). total_told (w a.caller) (calls_of a.entries)) part_account traces)
      ∙ (ap (total (λ (a : Account). total_told (w a.caller) (calls_of a.entries))) (sym are)
      ∙ calls_total w service h.events h.accounts closed.legal closed.each closed.agree)

  lists_all : {X : Type 0} (g : Event → List X) → total (λ p. length (flat_map g (events_told p.entries))) traces ≡ length (flat_map g h.events)
  lists_all g =
      total_same (λ (p : Trace). length (flat_map g (events_told p.entries)))
      (λ (p : Trace). total_told (λ (e : Event). length (g e)) (calls_of p.entries)) traces (λ p. calls_long g p.entries)
      ∙ (told_all (λ c e. length (g e)) ∙ sym (long_each g h.events))

  module _ (plans : ℕ) (tally : Tally) (counted : IsCounted plans traces tally) where
    pub sent_tallied : tally.sent + length (unsent h.events) ≡ length (dispatched h.events)
    sent_tallied =
        let sent = counted.sent in
        let back = lists_all (λ (e : Event). unsent_by e.call) in
        let jobs = lists_all (λ (e : Event). dispatched_by e.call e.reply) in
        omega (arith, sent, back, jobs)

    pub taken_tallied : tally.taken ≡ calls_after plans h.events
    taken_tallied =
        counted.taken
        ∙ (total_same (λ (p : Trace). cond (nat_le plans p.caller) (length (events_told p.entries)) 0)
        (λ (p : Trace). total_told (λ (e : Event). cond (nat_le plans p.caller) 1 0) (calls_of p.entries)) traces (ones_long plans)
        ∙ (told_all (λ c e. cond (nat_le plans c) 1 0) ∙ ones_count (λ (e : Event). nat_le plans e.caller) h.events))
