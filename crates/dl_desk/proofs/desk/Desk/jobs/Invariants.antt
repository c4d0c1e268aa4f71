use Rattle.std.proofs.Common.{◌≡◌, ◌≤◌, ◌+◌, ◌-◌, length, vec_capacity}
use Rattle.dl_desk.specs.Inside.Preparation.{book_jobs}
use Rattle.dl_desk.proofs.desk.Desk.jobs.Given as goal

abbrev pub invariant-loop-number : goal.invariant-loop-number
invariant-loop-number l = record {
  jobs : l.jobs.items ≡ book_jobs l.self.prepared l.sent (l.number - l.sent);
  count : l.sent + length l.jobs.items ≡ l.number;
  room : l.begun ≤ l.sent + vec_capacity l.jobs;
}
