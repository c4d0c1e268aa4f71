use Rattle.std.proofs.Common.{◌≡◌, ◌∙◌, sym, ap, ◌≤◌, ℕ, length, length-append, map, Some, slice_get, refl, arith}
use Rattle.std.proofs.lemmas.List.{length-map}
use Rattle.std.proofs.lemmas.Option.{slice_get_read}
use Rattle.std.proofs.lemmas.Result.{IfOk-from_err}
use Rattle.dl_values.specs.Key.{Key}
use Rattle.dl_desk.specs.BatchBook.{Desk}
use Rattle.dl_desk.specs.Inside.Preparation.{prepared_batch, members_at}
use Rattle.dl_desk.proofs.DispatchJobs.{book_jobs-more, members_at-stored}
use Rattle.dl_desk.proofs.desk.Desk.jobs.Goals as goal
use Rattle.dl_desk.proofs.desk.Desk.jobs.Goals.{After-push_reserved}

at : (c : After-push_reserved) → slice_get c.self.inside.batches.items c.loop-number.number ≡ Some c.index.result.now
at c =
    let stored : c.self.inside.prepared.begun ≤ length c.self.inside.batches.items = rw length-map at c.self.invariant.prepared_book.all_stored in
    slice_get_read c.self.inside.batches.items (length c.self.inside.batches.items) c.loop-number.number c.index.result.now refl (omega arith) c.index.ensures

members : (c : After-push_reserved) → members_at c.args.self.now.prepared c.loop-number.number ≡ c.index.result.now.members
members c =
    members_at-stored prepared_batch c.args.self.now.prepared c.self.inside.prepared.begun c.loop-number.number c.self.inside.batches.items c.index.result.now
    (sym (ap (λ (d : Desk). d.prepared.batches) c.self.view_is)) c.loop-number-test.true (at c)

pub loop-number-preserved : goal.loop-number-preserved
loop-number-preserved c =
    let count = c.loop-number.invariant.count in
    record {
      jobs = c.push_reserved.ensures.items
          ∙ book_jobs-more c.args.self.now.prepared c.self.inside.prepared.sent c.loop-number.number _ _ (omega arith) c.loop-number.invariant.jobs
          (c.in_ok-keys.ensures ∙ (c.keys.ensures ∙ ap (map (λ (m : Key × ℕ). m.0)) (sym (members c))));
      count = rw (c.push_reserved.ensures.items, length-append) (omega arith);
      room = rw c.push_reserved.ensures.capacity c.loop-number.invariant.room;
    }

pub returns-in_err-jobs : goal.returns-in_err-jobs
returns-in_err-jobs c = IfOk-from_err _ _ c.from_residual.ensures.0

pub returns-in_err-keys : goal.returns-in_err-keys
returns-in_err-keys c = IfOk-from_err _ _ c.from_residual-in_err-keys.ensures.0
