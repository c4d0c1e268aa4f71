-- What the pass that gathered all seats learns, said of the seats and their jobs.
use Rattle.std.proofs.Common.{◌≡◌, ℕ, ◌+◌, ◌-◌, List, [], ◌∷◌, ◌++◌, length, ap, ◌∙◌, count_by, flat_map, length-append, arith}
use Rattle.std.proofs.lemmas.List.Concat.{flat_map-append}
use Rattle.dl_workers.specs.Bag.{EachAsOften}
use Rattle.dl_workers.specs.LosslessRule.{jobs, WholeIsLossless}
use Rattle.dl_workers.specs.Seats.{sent_items, sent_jobs, taken_items, taken_jobs}
use Rattle.dl_workers.specs.Balance.{Balances}
use Rattle.dl_workers.specs.declared.rule.Item.{Item}
use Rattle.dl_workers.specs.declared.rule.Traffic.{Traffic}
use Rattle.dl_workers.specs.declared.seats.Sender.{Sender}
use Rattle.dl_workers.specs.declared.seats.Taker.{Taker}
use Rattle.dl_workers.proofs.Totals.{count_by-append}
use Rattle.dl_workers.proofs.Jobs.{jobs-append, jobs-flat_map, EachAsOften-jobs, EachAsOften-length}

module _ (rest : List Sender) (last : Sender) (takers : List Taker) where
  -- the jobs of all senders, of whom one was looked at first
  flat_map-last : flat_map sent_jobs (rest ++ last ∷ []) ≡ flat_map sent_jobs rest ++ (sent_jobs last ++ [])
  flat_map-last = flat_map-append sent_jobs rest (last ∷ [])

  module _ (whole : Traffic) (sent_is : whole.sent ≡ sent_items last ++ flat_map sent_items rest) (taken_is : whole.taken ≡ flat_map taken_items takers) where
    -- the jobs that the senders sent are those that the takers took and those in the channel
    jobs_balance : (items : List Item) → WholeIsLossless whole items
        → EachAsOften (flat_map taken_jobs takers ++ jobs items) (flat_map sent_jobs (rest ++ last ∷ []))
    jobs_balance items learned test =
        let whole_jobs = EachAsOften-jobs whole.sent (whole.taken ++ items) learned test in
        let sent = ap (count_by test) (ap jobs sent_is ∙ jobs-append (sent_items last) (flat_map sent_items rest)) in
        let taken = ap (count_by test) (jobs-append whole.taken items) in
        let of_rest = ap (count_by test) (jobs-flat_map sent_items rest) in
        let of_takers = ap (count_by test) (ap jobs taken_is ∙ jobs-flat_map taken_items takers) in
        let of_all = ap (count_by test) flat_map-last in
        omega (
          arith,
          count_by-append test (sent_jobs last) (jobs (flat_map sent_items rest)),
          count_by-append test (jobs whole.taken) (jobs items),
          count_by-append test (flat_map taken_jobs takers) (jobs items),
          count_by-append test (flat_map sent_jobs rest) (sent_jobs last ++ []),
          count_by-append test (sent_jobs last) [],
        )

    module _ (sent taken : ℕ) (counts_sent : sent ≡ length (sent_jobs last) + length (flat_map sent_jobs rest))
        (counts_taken : taken ≡ length (flat_map taken_jobs takers)) where
      -- what finish answers
      pub finishes : (items : List Item) → WholeIsLossless whole items
          → Balances (rest ++ last ∷ []) takers (record { sent = sent; taken = taken; left = sent - taken })
      finishes items learned =
          let same = jobs_balance items learned in
          let all = ap length flat_map-last in
          let long = EachAsOften-length (flat_map taken_jobs takers ++ jobs items) (flat_map sent_jobs (rest ++ last ∷ [])) same in
          let all_sent : sent ≡ length (flat_map sent_jobs (rest ++ last ∷ [])) =
          omega (arith, length-append (flat_map sent_jobs rest) (sent_jobs last ++ []), length-append (sent_jobs last) []) in
          record {
            left = jobs items;
            same = same;
            counts_sent = all_sent;
            counts_taken = counts_taken;
            counts_left = omega (arith, length-append (flat_map taken_jobs takers) (jobs items));
          }

-- the jobs sent are those taken and those left, in number
pub balance_of_counts : (senders : List Sender) (takers : List Taker) (sent taken left : ℕ)
    → Balances senders takers (record { sent = sent; taken = taken; left = left }) → sent ≡ taken + left
balance_of_counts senders takers sent taken left b =
    let long = EachAsOften-length (flat_map taken_jobs takers ++ b.left) (flat_map sent_jobs senders) b.same in
    let s = b.counts_sent in
    let t = b.counts_taken in
    let l = b.counts_left in
    omega (arith, length-append (flat_map taken_jobs takers) b.left)
