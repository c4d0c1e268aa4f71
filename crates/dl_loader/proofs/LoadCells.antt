-- The cells with which loads are answered: a book has each of them, and a pass was answered with them.
use Rattle.std.proofs.Common.{◌≡◌, ◌∙◌, ap, subst, ◌<◌, List, [], ◌∷◌, ◌++◌, length, refl, ℕ, map, append_assoc}
use Rattle.dl_values.specs.Key.{Key}
use Rattle.dl_desk.specs.History.{cells, load_replies, loaded, prime_reply}
use Rattle.dl_desk.specs.declared.reply.DeskPrime.{DeskPrime}
use Rattle.dl_desk.specs.Events.{atoms}
use Rattle.dl_desk.specs.Calls.{after}
use Rattle.dl_desk.specs.Calls as calls
use Rattle.dl_desk.specs.declared.reply.LoadReply.{LoadReply}
use Rattle.dl_desk.specs.declared.event.Event.{Event}
use Rattle.dl_desk.specs.declared.event.Call.{Call}
use Rattle.dl_desk.specs.declared.event.Reply.{Reply}
use Rattle.dl_desk.specs.declared.event.Reply.TheVariants.{Many, Loaded}
use Rattle.dl_loader.specs.Book.{Book, Keeps}
use Rattle.dl_history.specs.Entries.{cell_of_load, Called, event_at, cells_of}
use Rattle.dl_history.specs.History.{past}
use Rattle.dl_history.specs.Lists.{Every, Among}
use Rattle.dl_loader.specs.EventEffect.{event_of, loads_of, Makes}
use Rattle.dl_history.specs.Pass.{Trace, with_call}
use Rattle.dl_desk.specs.Service.{Service}
use Rattle.dl_loader.proofs.CallKnowledge.{replied}
use Rattle.dl_history.proofs.ListLemmas.{get-append_at}
use Rattle.dl_history.proofs.Pasts.{legal_at, atoms_next}
use Rattle.dl_history.proofs.CellsOfCalls.{replies_low, replies_long}
use Rattle.dl_history.proofs.EntryLists.{cells_of-append}
use Rattle.dl_desk.specs.declared.reply.DeskPrime.TheVariants as prime
use Rattle.dl_desk.specs.declared.event.Call.TheVariants as call
use Rattle.dl_history.specs.History as history
use Rattle.dl_desk.specs.Legal as desk
use Rattle.dl_desk.proofs.PastAtoms.{legal_atoms}

-- ---- as a book has them

-- the cells of the loads that a book's last event made
loads_last : (s : Service) (b now : Book) (p new : Trace) (c : Call) (r : Reply) (ks : List Key) → Keeps s b → Keeps s now → Makes b p c r now new
    → after s.rules (atoms (past b.history)) (desk.call_of c) ≡ loaded s.rules (atoms (past b.history)) ks
    → Every (λ x. cell_of_load x < length now.cells) (load_replies s.rules (atoms (past b.history)) ks)
loads_last s b now p new c r ks before kept made is =
    let H = atoms (past b.history) in
    let e : Event = event_of p c r in
    let legal : history.IsLegal s (b.history ++ e ∷ []) = subst (λ (es : List Event). history.IsLegal s es) made.history kept.legal in
    let next = legal_at s b.history [] e legal in
    let all : atoms (past now.history) ≡ loaded s.rules H ks =
    ap (λ (es : List Event). atoms (past es)) made.history ∙ (atoms_next s b.history e next ∙ is) in
    let count : length now.cells ≡ cells (loaded s.rules H ks) = kept.all_cells ∙ (kept.desk.cells ∙ ap cells all) in
    rw count (replies_low s.rules H (legal_atoms s (past b.history) before.legal) ks)

-- a loadMany has a reply for each key
pub loads_long : (s : Service) (b now : Book) (p new : Trace) (ks : List Key) (rs : List LoadReply) → Keeps s now
    → Makes b p (call.LoadMany ks) (Many rs) now new → length rs ≡ length ks
loads_long s b now p new ks rs kept made =
    let told : Many rs ≡ Many (load_replies s.rules (atoms (past b.history)) ks) = replied s b now p new (call.LoadMany ks) (Many rs) kept made in
    let own : rs ≡ load_replies s.rules (atoms (past b.history)) ks = cc in
    ap length own ∙ replies_long s.rules (atoms (past b.history)) ks

-- and the cells of the loads that its last event answers, if any
pub all_begun : {s : Service} {b now : Book} {p new : Trace} {c : Call} {r : Reply} → Keeps s b → Keeps s now → Makes b p c r now new
    → Every (λ x. cell_of_load x < length now.cells) (loads_of r)
all_begun {s} {b} {now} {p} {new} {c} {r} before kept made =
    rw (replied s b now p new c r kept made) (by c refl)
  where
    primed : (r : DeskPrime) → Every (λ x. cell_of_load x < length now.cells) (loads_of (calls.primed r))
    primed (prime.Primed d) = tt
    primed prime.Kept = tt

    by : (d : Call) → c ≡ d → Every (λ x. cell_of_load x < length now.cells) (loads_of (desk.reply_to s.rules (atoms (past b.history)) d))
    by (call.Load k) is = loads_last s b now p new c r (k ∷ []) before kept made (rw is refl)
    by (call.LoadMany ks) is = loads_last s b now p new c r ks before kept made (rw is refl)
    by (call.Prime k o) is = primed (prime_reply (atoms (past b.history)) k)
    by d is = tt

-- ---- as a pass has them

-- the cell of a load is among those that were answered
one_answered : {now : Trace} (p : Trace) (at : ℕ) (e : Event) (r : LoadReply) → now ≡ with_call p at e → e.reply ≡ Loaded r
    → Among (cell_of_load r) (cells_of now.entries)
one_answered {now} p at e r is reply =
    let all : cells_of now.entries ≡ cells_of p.entries ++ cell_of_load r ∷ [] = rw (is, cells_of-append p.entries (Called (event_at at e) ∷ []), reply) refl in
    rw all (length (cells_of p.entries), get-append_at (cells_of p.entries) (cell_of_load r) [])

every_among : (before after : List ℕ) (rs : List LoadReply) → Every (λ r. Among (cell_of_load r) (before ++ (map cell_of_load rs ++ after))) rs
every_among before after [] = tt
every_among before after (r ∷ rs) =
    let rest = every_among (before ++ cell_of_load r ∷ []) after rs in
    let same : (before ++ cell_of_load r ∷ []) ++ (map cell_of_load rs ++ after) ≡ before ++ (cell_of_load r ∷ (map cell_of_load rs ++ after)) =
    append_assoc before (cell_of_load r ∷ []) (map cell_of_load rs ++ after) in (
      (length before, get-append_at before (cell_of_load r) (map cell_of_load rs ++ after)),
      subst (λ (cs : List ℕ). Every (λ x. Among (cell_of_load x) cs) rs)
          same rest,
    )

-- and so are those of all loads of a loadMany
many_answered : {now : Trace} {rs copied : List LoadReply} (p : Trace) (at : ℕ) (e : Event) → now ≡ with_call p at e → e.reply ≡ Many copied
    → copied ≡ rs → Every (λ r. Among (cell_of_load r) (cells_of now.entries)) rs
many_answered {now} {rs} p at e is reply copy =
    let all : cells_of now.entries ≡ cells_of p.entries ++ (map cell_of_load rs ++ []) =
    rw (is, cells_of-append p.entries (Called (event_at at e) ∷ []), reply, copy) refl in
    rw all (every_among (cells_of p.entries) [] rs)

-- so are those of the loads that any event answers
pub loads_answered : {now : Trace} {ls : List LoadReply} (p : Trace) (at : ℕ) (e : Event) → now ≡ with_call p at e → loads_of e.reply ≡ ls
    → Every (λ r. Among (cell_of_load r) (cells_of now.entries)) ls
loads_answered {now} {ls} p at e is loads =
    subst (λ (rs : List LoadReply). Every (λ r. Among (cell_of_load r) (cells_of now.entries)) rs) loads (by e.reply refl)
  where
    by : (reply : Reply) → e.reply ≡ reply → Every (λ r. Among (cell_of_load r) (cells_of now.entries)) (loads_of reply)
    by (Loaded r) told = (one_answered p at e r is told, tt)
    by (Many rs) told = many_answered p at e is told refl
    by reply told = tt
