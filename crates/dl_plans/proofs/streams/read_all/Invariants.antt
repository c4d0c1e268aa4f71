-- What was read are the reader's first bytes.
use Rattle.std.proofs.Common.{◌≡◌, ◌≤◌, ◌-◌, length, vec_len}
use Rattle.std.specs.Io.KnownBytes.{Consumes}
use Rattle.dl_plans.specs.declared.streams.TheConstants.{MOST_READ, BUFFER_BYTES}
use Rattle.dl_plans.proofs.streams.read_all.Given as goal

abbrev pub invariant-loop-buffer : goal.invariant-loop-buffer
invariant-loop-buffer g l = record {
  most : vec_len l.bytes ≤ MOST_READ;
  consumed : Consumes (g.R.Read.remaining l.initial.reader) (g.R.Read.remaining l.reader) l.bytes.items;
  buffer : length l.buffer ≡ BUFFER_BYTES;
}

abbrev pub decreases-loop-buffer : goal.decreases-loop-buffer
decreases-loop-buffer g l = MOST_READ - vec_len l.bytes
