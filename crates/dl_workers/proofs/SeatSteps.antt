-- What one step of a seat makes of its traffic.
use Rattle.std.proofs.Common.{◌≡◌, ◌+◌, Bool, true, List, [], ◌∷◌, ◌++◌, length, ap, sym, refl, ◌∙◌, length-append, Result, Ok, Err, MatchResult, arith}
use Rattle.std.proofs.lemmas.List.{append-nil}
use Rattle.dl_values.specs.declared.job.Job.{Job}
use Rattle.dl_workers.specs.LosslessRule.{has_end, traffic, jobs}
use Rattle.dl_workers.specs.declared.rule.Item.{Item}
use Rattle.dl_workers.specs.declared.rule.Item.TheVariants.{Work, End}
use Rattle.dl_workers.specs.declared.rule.Traffic.{Traffic}
use Rattle.dl_workers.proofs.Jobs.{jobs-append}

-- nothing but end marks was added to the traffic
pub record IsSameButMarks (v w : Traffic) : Type 0 where
  pub seats : w.seats ≡ v.seats
  pub all : w.all ≡ v.all
  pub sent : jobs w.sent ≡ jobs v.sent
  pub taken : w.taken ≡ v.taken

-- a send of an end mark, whether it succeeds or not
pub after_mark : {T E : Type 0} (P : E → Type 0) (v w : Traffic) (r : Result T E)
    → MatchResult r (λ _. w ≡ traffic v.seats v.all (v.sent ++ End ∷ []) v.taken) (λ e. P e × (w ≡ v)) → IsSameButMarks v w
after_mark P v w (Ok _) is = record {
  seats = ap (λ (a : Traffic). a.seats) is;
  all = ap (λ (a : Traffic). a.all) is;
  sent = ap (λ (a : Traffic). jobs a.sent) is ∙ jobs-append v.sent (End ∷ []) ∙ append-nil (jobs v.sent);
  taken = ap (λ (a : Traffic). a.taken) is;
}
after_mark P v w (Err _) is = record {
  seats = ap (λ (a : Traffic). a.seats) is.1;
  all = ap (λ (a : Traffic). a.all) is.1;
  sent = ap (λ (a : Traffic). jobs a.sent) is.1;
  taken = ap (λ (a : Traffic). a.taken) is.1;
}

-- a send of a job
pub after_send : (job : Job) (v w : Traffic) → w ≡ traffic v.seats v.all (v.sent ++ Work job ∷ []) v.taken → jobs w.sent ≡ jobs v.sent ++ job ∷ []
after_send job v w is = ap (λ (a : Traffic). jobs a.sent) is ∙ jobs-append v.sent (Work job ∷ [])

-- a take of a job
pub after_take : (job : Job) (v w : Traffic) → w ≡ traffic v.seats v.all v.sent (v.taken ++ Work job ∷ []) → jobs w.taken ≡ jobs v.taken ++ job ∷ []
after_take job v w is = ap (λ (a : Traffic). jobs a.taken) is ∙ jobs-append v.taken (Work job ∷ [])

-- a take of an end mark
pub after_end : (v w : Traffic) → w ≡ traffic v.seats v.all v.sent (v.taken ++ End ∷ []) → jobs w.taken ≡ jobs v.taken
after_end v w is = ap (λ (a : Traffic). jobs a.taken) is ∙ jobs-append v.taken (End ∷ []) ∙ append-nil (jobs v.taken)

-- a job among items is no end mark
mark_none : (items : List Item) (job : Job) → has_end (items ++ Work job ∷ []) ≡ has_end items
mark_none [] job = refl
mark_none (Work x ∷ items) job = mark_none items job
mark_none (End ∷ items) job = refl

mark_there : (items : List Item) → has_end (items ++ End ∷ []) ≡ true
mark_there [] = refl
mark_there (Work x ∷ items) = mark_there items
mark_there (End ∷ items) = refl

-- a take of a job leaves the end mark where it is, or not there
pub still_marked : (job : Job) (v w : Traffic) (ended : Bool) → w ≡ traffic v.seats v.all v.sent (v.taken ++ Work job ∷ []) → ended ≡ has_end v.taken
    → ended ≡ has_end w.taken
still_marked job v w ended is so_far = so_far ∙ sym (ap (λ (a : Traffic). has_end a.taken) is ∙ mark_none v.taken job)

-- a take of an end mark
pub now_marked : (v w : Traffic) → w ≡ traffic v.seats v.all v.sent (v.taken ++ End ∷ []) → has_end w.taken ≡ true
now_marked v w is = ap (λ (a : Traffic). has_end a.taken) is ∙ mark_there v.taken

-- a list that one element joined has one more
pub length-push : {A : Type 0} (xs ys : List A) (x : A) → ys ≡ xs ++ x ∷ [] → length ys ≡ length xs + 1
length-push xs ys x is = let longer = ap length is in omega (arith, length-append xs (x ∷ []))
