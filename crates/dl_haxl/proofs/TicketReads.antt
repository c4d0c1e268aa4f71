-- The outcomes of tickets are read, one after another.
use Rattle.std.proofs.Common.{◌≡◌, ◌≢◌, ◌∙◌, ap, sym, refl, ℕ, ◌+◌, ◌<◌, ◌≤◌, Bool, true, false}
use Rattle.std.proofs.Common.{List, [], ◌∷◌, ◌++◌, map, take, length, set, get_or, Option, Some, None, arith, append_assoc}
use Rattle.std.specs.Prelude.{slice_get, option_map, is_some, IsSome, ◌&&◌}
use Rattle.std.proofs.lemmas.List.{length-map, map-append, take_more_set}
use Rattle.std.proofs.lemmas.Option.{slice_get-get_or, slice_get-map}
use Rattle.std.proofs.Math.Seq.{map-set_same}
use Rattle.dl_desk.specs.declared.reply.LoadReply.{LoadReply}
use Rattle.dl_desk.proofs.Tails.{get-set_other}
use Rattle.dl_desk.specs.declared.event.Ending.{Ending}
use Rattle.dl_history.specs.Entries.{Entry, Saw, cell_of_load, read}
use Rattle.dl_loader.specs.Additions.{saws}
use Rattle.dl_loader.specs.Pass.{Trace, Ticket, GaveTicket, given, with_saw}
use Rattle.dl_loader.proofs.AdditionLemmas.{seen_once}
use Rattle.dl_terms.proofs.Options.{none_absurd, some_same}
use Rattle.dl_haxl.specs.Pairs.{outcomes_shown, with_shown, all_show}
use Rattle.dl_haxl.specs.Inside.Reads.{KeepsOthers}

abbrev pub reply_of : Ticket → LoadReply
reply_of t = t.reply

abbrev pub known_of : Ticket → Option Ending
known_of t = t.known

abbrev number_of : Ticket → ℕ
number_of t = t.number

-- the tickets before i are read, and those from i on aren't yet
pub record Reading (first i : ℕ) (old now : Trace) (before ts : List Ticket) : Type 0 where
  pub caller : now.caller ≡ old.caller
  pub replies : map reply_of ts ≡ map reply_of before
  pub numbers : map number_of ts ≡ map number_of before
  pub numbered : (j : ℕ) (t : Ticket) → slice_get before j ≡ Some t → t.number ≡ first + j
  pub unseen : (j : ℕ) (t : Ticket) → i ≤ j → slice_get ts j ≡ Some t → GaveTicket now t false
  pub endings : List Ending
  pub known : map known_of (take i ts) ≡ map Some endings
  pub entries : now.entries ≡ old.entries ++ saws (map reply_of (take i ts)) endings
  pub others : KeepsOthers before old now

-- ---- what is read

pub saws_more : (rs : List LoadReply) (es : List Ending) (r : LoadReply) (e : Ending) → length es ≡ length rs
    → saws (rs ++ r ∷ []) (es ++ e ∷ []) ≡ saws rs es ++ Saw (read (cell_of_load r) e) ∷ []
saws_more [] [] r e long = refl
saws_more [] (x ∷ es) r e long = absurd (omega (arith, long))
saws_more (s ∷ rs) [] r e long = absurd (omega (arith, long))
saws_more (s ∷ rs) (x ∷ es) r e long = let less : length es ≡ length rs =
    omega arith in ap (λ ls. Saw (read (cell_of_load s) x) ∷ ls) (saws_more rs es r e less)

number_found : (o : Option Ticket) (n : ℕ) → Some n ≡ option_map number_of o → (t : Ticket) × (o ≡ Some t) × (t.number ≡ n)
number_found None n is = absurd (none_absurd n (sym is))
number_found (Some t) n is = (t, refl, sym (some_same n t.number is))

-- the ticket that stood at a place before
before_at : (before ts : List Ticket) (j : ℕ) (t : Ticket) → map number_of ts ≡ map number_of before → slice_get ts j ≡ Some t
    → (b : Ticket) × (slice_get before j ≡ Some b) × (b.number ≡ t.number)
before_at before ts j t numbers is =
    let here = ap (option_map number_of) (sym is) ∙ (sym (slice_get-map number_of ts j)
    ∙ (ap (λ ns. slice_get ns j) numbers ∙ slice_get-map number_of before j)) in
    number_found (slice_get before j) t.number here

-- the number of the ticket at a place
number_at : (first : ℕ) (before ts : List Ticket) (j : ℕ) (t : Ticket) → map number_of ts ≡ map number_of before
    → ((k : ℕ) (u : Ticket) → slice_get before k ≡ Some u → u.number ≡ first + k) → slice_get ts j ≡ Some t → t.number ≡ first + j
number_at first before ts j t numbers numbered is =
    let found = before_at before ts j t numbers is in
    sym found.2 ∙ numbered j found.0 found.1

module _ (first i : ℕ) (old now next : Trace) (before ts : List Ticket) (d u : Ticket) (e : Ending) (so_far : Reading first i old now before ts)
    (lt : i < length ts) (number : u.number ≡ (get_or ts i d).number) (reply : u.reply ≡ (get_or ts i d).reply) (shows : u.known ≡ Some e) where
  abbrev t : Ticket
  t = get_or ts i d

  t_at : slice_get ts i ≡ Some t
  t_at = slice_get-get_or ts i d lt

  t_number : t.number ≡ first + i
  t_number = number_at first before ts i t so_far.numbers so_far.numbered t_at

  other_number : (j : ℕ) (x : Ticket) → i + 1 ≤ j → slice_get ts j ≡ Some x → x.number ≢ t.number
  other_number j x low is same =
      let one = number_at first before ts j x so_far.numbers so_far.numbered is in
      let bad : first + j ≡ first + i = sym one ∙ (same ∙ t_number) in
      omega (arith, bad, low)

  other_place : (j : ℕ) → i + 1 ≤ j → j ≢ i
  other_place j low same = omega (arith, low, same)

  taken : take (i + 1) (set ts i u) ≡ take i ts ++ u ∷ []
  taken = take_more_set ts i u lt

  long : length so_far.endings ≡ length (map reply_of (take i ts))
  long = sym (length-map so_far.endings Some) ∙ (ap length (sym so_far.known) ∙ (length-map (take i ts) known_of ∙ sym (length-map (take i ts) reply_of)))

  entries_next : next.entries ≡ now.entries ++ Saw (read (cell_of_load t.reply) e) ∷ []
      → next.entries ≡ old.entries ++ saws (map reply_of (take (i + 1) (set ts i u))) (so_far.endings ++ e ∷ [])
  entries_next is =
      let replies = ap (map reply_of) taken ∙ map-append reply_of (take i ts) (u ∷ []) in
      let more = saws_more (map reply_of (take i ts)) so_far.endings u.reply e long in
      let line : List Entry = Saw (read (cell_of_load t.reply) e) ∷ [] in
      let same : line ≡ Saw (read (cell_of_load u.reply) e) ∷ [] = ap (λ (r : LoadReply). Saw (read (cell_of_load r) e) ∷ []) (sym reply) in
      is ∙ (ap (λ ls. ls ++ line) so_far.entries ∙ (append_assoc old.entries (saws (map reply_of (take i ts)) so_far.endings) line
      ∙ ap (λ ls. old.entries ++ ls) (ap (λ ls. saws (map reply_of (take i ts)) so_far.endings ++ ls) same
      ∙ (sym more ∙ ap (λ rs. saws rs (so_far.endings ++ e ∷ [])) (sym replies)))))

  known_next : map known_of (take (i + 1) (set ts i u)) ≡ map Some (so_far.endings ++ e ∷ [])
  known_next =
      let last : List (Option Ending) = u.known ∷ [] in
      ap (map known_of) taken ∙ (map-append known_of (take i ts) (u ∷ [])
      ∙ (ap (λ os. os ++ last) so_far.known ∙ (ap (λ o. map Some so_far.endings ++ o ∷ []) shows ∙ sym (map-append Some so_far.endings (e ∷ [])))))

  unread : next ≡ with_saw now t.number (cell_of_load t.reply) e false → Reading first (i + 1) old next before (set ts i u)
  unread is = record {
    caller = ap (λ (p : Trace). p.caller) is ∙ so_far.caller;
    replies = map-set_same reply_of ts i u d reply ∙ so_far.replies;
    numbers = map-set_same number_of ts i u d number ∙ so_far.numbers;
    numbered = so_far.numbered;
    unseen = λ j x low at.
        let here = sym (get-set_other ts i j u (other_place j low)) ∙ at in
        let low_too : i ≤ j = omega (arith, low) in
        let was = so_far.unseen j x low_too here in
        ap (λ (p : Trace). slice_get p.tickets x.number) is ∙
        (get-set_other now.tickets t.number x.number (given (cell_of_load t.reply) true) (other_number j x low here) ∙ was);
    endings = so_far.endings ++ e ∷ [];
    known = known_next;
    entries = entries_next (ap (λ (p : Trace). p.entries) is);
    others = λ n g other at.
        let b = before_at before ts i t so_far.numbers t_at in
        let apart : n ≢ t.number = λ same. other i b.0 b.1 (b.2 ∙ sym same) in
        ap (λ (p : Trace). slice_get p.tickets n) is
        ∙ (get-set_other now.tickets t.number n (given (cell_of_load t.reply) true) apart ∙ so_far.others n g other at);
  }

  pub read_next : (seen : Bool) → GaveTicket now t seen → next ≡ with_saw now t.number (cell_of_load t.reply) e seen
      → Reading first (i + 1) old next before (set ts i u)
  read_next seen gave is =
      let low : i ≤ i = omega arith in
      let not_seen = seen_once now t seen (so_far.unseen i t low t_at) gave in
      unread (is ∙ ap (with_saw now t.number (cell_of_load t.reply) e) not_seen)

pub shown_ending : (o : Option Ending) → IsSome o → (e : Ending) × (o ≡ Some e)
shown_ending None some = absurd (let bad : ◌≡◌ {A = Bool} false true = some in cc)
shown_ending (Some e) some = (e, refl)

-- ---- at the beginning, at the end, and on the way

-- ---- what tickets show that are read

pub reads_shown : (ts : List Ticket) (es : List Ending) → map known_of ts ≡ map Some es
    → (all_show ts ≡ true) × (outcomes_shown ts ≡ map (λ (e : Ending). e.outcome) es)
reads_shown [] [] is = (refl, refl)
reads_shown [] (e ∷ es) is = absurd (let bad : ◌≡◌ {A = List (Option Ending)} [] (Some e ∷ map Some es) = is in cc)
reads_shown (t ∷ ts) [] is = absurd (let bad : ◌≡◌ {A = List (Option Ending)} (t.known ∷ map known_of ts) [] = is in cc)
reads_shown (t ∷ ts) (e ∷ es) is =
    let both : ◌≡◌ {A = List (Option Ending)} (t.known ∷ map known_of ts) (Some e ∷ map Some es) = is in
    let first : t.known ≡ Some e = cc in
    let rest : map known_of ts ≡ map Some es = cc in
    let more = reads_shown ts es rest in (
      ap (λ (o : Option Ending). is_some o && all_show ts) first ∙ more.0,
      ap (λ (o : Option Ending). with_shown o (outcomes_shown ts)) first
          ∙ ap (λ os. e.outcome ∷ os) more.1,
    )
