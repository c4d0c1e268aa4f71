-- The rule of the channel survives every step: a send, a receive, the three splits and joins of seats. And what it tells the pass that stands for all seats.
use Rattle.std.proofs.Common.{◌≡◌, ℕ, ◌+◌, ◌-◌, ◌<◌, List, [], ◌∷◌, ◌++◌, sym, refl, ap, subst, ◌∙◌, set, sum_by, count_by, ⊎_elim, arith}
use Rattle.std.proofs.lemmas.List.Sums.{sum_by_push}
use Rattle.crossbeam_queue.proofs.Lists.{at_set, at_snoc}
use Rattle.crossbeam_channel.specs.Fifo.{Pushes, Pops, Forks, Merges, Learns}
use Rattle.dl_workers.specs.declared.rule.Item.{Item}
use Rattle.dl_workers.specs.declared.rule.Traffic.{Traffic}
use Rattle.dl_workers.specs.LosslessRule.{traffic, KnowsAll, IdleIsEmpty, IsLossless, WholeIsLossless}
use Rattle.dl_workers.proofs.Totals.{sum_by-set_at, two_at-le-sum_by, sum_by-whole, count_by-append}

-- how many seats all passes stand for
abbrev total_seats : List Traffic → ℕ
total_seats views = sum_by (λ u. u.seats) views

abbrev IsEmpty : Traffic → Type 0
IsEmpty v = (v.sent ≡ []) × (v.taken ≡ [])

idle_set : (views : List Traffic) (pass : ℕ) (w : Traffic) → IdleIsEmpty views → (w.seats ≡ 0 → IsEmpty w) → IdleIsEmpty (set views pass w)
idle_set views pass w idle own j u at none =
    ⊎_elim (λ here. subst IsEmpty here.1 (own (ap (λ (a : Traffic). a.seats) here.1 ∙ none))) (λ there. idle j u there.1 none) (at_set views pass j w u at)

idle_snoc : (views : List Traffic) (w : Traffic) → IdleIsEmpty views → (w.seats ≡ 0 → IsEmpty w) → IdleIsEmpty (views ++ w ∷ [])
idle_snoc views w idle own j u at none =
    ⊎_elim (λ there. idle j u there none) (λ here. subst IsEmpty here (own (ap (λ (a : Traffic). a.seats) here ∙ none))) (at_snoc views w u j at)

-- where a change keeps the number of all seats, the others still know it
knows_set : (views : List Traffic) (pass : ℕ) (w : Traffic) → KnowsAll views → total_seats (set views pass w) ≡ total_seats views
    → (0 < w.seats → w.all ≡ total_seats views) → KnowsAll (set views pass w)
knows_set views pass w knows same own j u at some_seat =
    ⊎_elim
    (λ here. let is = here.1 in let all = ap (λ (a : Traffic). a.all) is in let seats = ap (λ (a : Traffic). a.seats) is in let known =
    own (omega arith) in omega arith)
    (λ there. let known = knows j u there.1 some_seat in omega arith)
    (at_set views pass j w u at)

-- a send
pub sends : (n pass : ℕ) (v : Traffic) (x : Item) → 0 < v.seats → Pushes IsLossless n pass v x (λ w. w ≡ traffic v.seats v.all (v.sent ++ x ∷ []) v.taken)
sends n pass v x some_seat items views room b at =
    let w = traffic v.seats v.all (v.sent ++ x ∷ []) v.taken in (
      w,
      record {
        knows =
            knows_set views pass w b.knows
            (let s = sum_by-set_at (λ (u : Traffic). u.seats) views pass v w at in omega arith)
            (λ h. b.knows pass v at some_seat);
        idle = idle_set views pass w b.idle (λ none. absurd (omega arith));
        balance = λ test.
            let s = sum_by-set_at (λ (u : Traffic). count_by test u.sent) views pass v w at in
            let t = sum_by-set_at (λ (u : Traffic). count_by test u.taken) views pass v w at in
            let before = b.balance test in
            omega (arith, count_by-append test v.sent (x ∷ []), count_by-append test items (x ∷ []));
      },
      refl,
    )

-- a receive
pub takes : (pass : ℕ) (v : Traffic) → 0 < v.seats → Pops IsLossless pass v (λ x w. w ≡ traffic v.seats v.all v.sent (v.taken ++ x ∷ []))
takes pass v some_seat x items views b at =
    let w = traffic v.seats v.all v.sent (v.taken ++ x ∷ []) in (
      w,
      record {
        knows =
            knows_set views pass w b.knows
            (let s = sum_by-set_at (λ (u : Traffic). u.seats) views pass v w at in omega arith)
            (λ h. b.knows pass v at some_seat);
        idle = idle_set views pass w b.idle (λ none. absurd (omega arith));
        balance = λ test.
            let s = sum_by-set_at (λ (u : Traffic). count_by test u.sent) views pass v w at in
            let t = sum_by-set_at (λ (u : Traffic). count_by test u.taken) views pass v w at in
            let before = b.balance test in
            omega (arith, count_by-append test v.taken (x ∷ []), count_by-append test (x ∷ []) items);
      },
      refl,
    )

-- A split that makes room: the pass that stands for all seats stands for one more, and the new pass for none.
pub widens : (pass : ℕ) (v : Traffic) → 0 < v.seats → v.seats ≡ v.all
    → Forks IsLossless pass v (traffic (v.seats + 1) (v.all + 1) v.sent v.taken) (traffic 0 0 [] [])
widens pass v some_seat whole items views b at =
    let w = traffic (v.seats + 1) (v.all + 1) v.sent v.taken in
    let none = traffic 0 0 [] [] in
    let seats = sum_by-set_at (λ (u : Traffic). u.seats) views pass v w at in
    let all = b.knows pass v at some_seat in
    let total : total_seats (set views pass w ++ none ∷ []) ≡ w.all = omega (arith, sum_by_push (λ (u : Traffic). u.seats) (set views pass w) none) in
    record {
      knows = λ j u there some_other.
          ⊎_elim
          (λ old.
          ⊎_elim
          (λ here. ap (λ (a : Traffic). a.all) (sym here.1) ∙ sym total)
          (λ other. absurd (let two = two_at-le-sum_by (λ (a : Traffic). a.seats) views pass j v u other.0 at other.1 in omega arith))
          (at_set views pass j w u old))
          (λ new. absurd (let empty = ap (λ (a : Traffic). a.seats) new in omega arith))
          (at_snoc (set views pass w) none u j there);
      idle = idle_snoc (set views pass w) none (idle_set views pass w b.idle (λ h. absurd (omega arith))) (λ _. (refl, refl));
      balance = λ test.
          let s = sum_by-set_at (λ (u : Traffic). count_by test u.sent) views pass v w at in
          let t = sum_by-set_at (λ (u : Traffic). count_by test u.taken) views pass v w at in
          let before = b.balance test in
          omega (
            arith,
            sum_by_push (λ (u : Traffic). count_by test u.sent) (set views pass w) none,
            sum_by_push (λ (u : Traffic). count_by test u.taken)
                (set views pass w) none,
          );
    }

-- a split that deals one seat
pub deals : (pass : ℕ) (v : Traffic) → 1 < v.seats → Forks IsLossless pass v (traffic (v.seats - 1) v.all v.sent v.taken) (traffic 1 v.all [] [])
deals pass v some_seats items views b at =
    let w = traffic (v.seats - 1) v.all v.sent v.taken in
    let one = traffic 1 v.all [] [] in
    let seats = sum_by-set_at (λ (u : Traffic). u.seats) views pass v w at in
    let all = b.knows pass v at (omega arith) in
    let total : total_seats (set views pass w ++ one ∷ []) ≡ v.all = omega (arith, sum_by_push (λ (u : Traffic). u.seats) (set views pass w) one) in
    record {
      knows = λ j u there some_other.
          ⊎_elim
          (λ old.
          ⊎_elim
          (λ here. ap (λ (a : Traffic). a.all) (sym here.1) ∙ sym total)
          (λ other. b.knows j u other.1 some_other ∙ sym all ∙ sym total)
          (at_set views pass j w u old))
          (λ new. ap (λ (a : Traffic). a.all) (sym new) ∙ sym total)
          (at_snoc (set views pass w) one u j there);
      idle = idle_snoc (set views pass w) one (idle_set views pass w b.idle (λ h. absurd (omega arith))) (λ _. (refl, refl));
      balance = λ test.
          let s = sum_by-set_at (λ (u : Traffic). count_by test u.sent) views pass v w at in
          let t = sum_by-set_at (λ (u : Traffic). count_by test u.taken) views pass v w at in
          let before = b.balance test in
          omega (
            arith,
            sum_by_push (λ (u : Traffic). count_by test u.sent) (set views pass w) one,
            sum_by_push (λ (u : Traffic). count_by test u.taken)
                (set views pass w) one,
          );
    }

-- a join
pub gathers : (pass : ℕ) (v : Traffic) (other : ℕ) (u : Traffic) → 0 < v.seats
    → Merges IsLossless pass v other u (traffic (v.seats + u.seats) v.all (v.sent ++ u.sent) (v.taken ++ u.taken)) (traffic 0 0 [] [])
gathers pass v other u some_seat items views b at apart there =
    let w = traffic (v.seats + u.seats) v.all (v.sent ++ u.sent) (v.taken ++ u.taken) in
    let none = traffic 0 0 [] [] in
    let mid = set views pass w in
    let seats = sum_by-set_at (λ (a : Traffic). a.seats) views pass v w at in
    let rest = sum_by-set_at (λ (a : Traffic). a.seats) mid other u none there in
    let all = b.knows pass v at some_seat in
    let total : total_seats (set mid other none) ≡ v.all = omega arith in
    record {
      knows = λ j a found some_other.
          ⊎_elim
          (λ spent. absurd (let empty = ap (λ (x : Traffic). x.seats) spent.1 in omega arith))
          (λ old.
          ⊎_elim
          (λ here. ap (λ (x : Traffic). x.all) (sym here.1) ∙ sym total)
          (λ same. b.knows j a same.1 some_other ∙ sym all ∙ sym total)
          (at_set views pass j w a old.1))
          (at_set mid other j none a found);
      idle = idle_set mid other none (idle_set views pass w b.idle (λ h. absurd (omega arith))) (λ _. (refl, refl));
      balance = λ test.
          let s = sum_by-set_at (λ (a : Traffic). count_by test a.sent) views pass v w at in
          let t = sum_by-set_at (λ (a : Traffic). count_by test a.taken) views pass v w at in
          let s' = sum_by-set_at (λ (a : Traffic). count_by test a.sent) mid other u none there in
          let t' = sum_by-set_at (λ (a : Traffic). count_by test a.taken) mid other u none there in
          let before = b.balance test in
          omega (arith, count_by-append test v.sent u.sent, count_by-append test v.taken u.taken);
    }

-- the pass that stands for all seats learns that what they sent is what they took and what the channel holds
pub learns : (pass : ℕ) (v : Traffic) → 0 < v.seats → v.seats ≡ v.all → Learns IsLossless pass v (WholeIsLossless v)
learns pass v some_seat whole items views b at test =
    let all : total_seats views ≡ v.seats = sym (b.knows pass v at some_seat) ∙ sym whole in
    let sent = sum_by-whole (λ (a : Traffic). a.seats) (λ (a : Traffic). count_by test a.sent) views pass v at all
    (λ j u there none. ap (count_by test) (b.idle j u there none).0) in
    let taken = sum_by-whole (λ (a : Traffic). a.seats) (λ (a : Traffic). count_by test a.taken) views pass v at all
    (λ j u there none. ap (count_by test) (b.idle j u there none).1) in
    let balance = b.balance test in
    omega (arith, count_by-append test v.taken items)
