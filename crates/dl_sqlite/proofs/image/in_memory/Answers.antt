use Rattle.std.proofs.Common.{length, subst}
use Rattle.sqlite_disk.specs.Disk.{Torn}
use Rattle.dl_sqlite.proofs.Images.{written_alone}
use Rattle.dl_sqlite.proofs.image.in_memory.Goals as goal

pub returns-in-Ok-clause-bytes : goal.returns-in-Ok-clause-bytes
returns-in-Ok-clause-bytes c =
    let bytes = c.args.bytes.now in
    let file = c.write_at.new.self.bytes.items in
    written_alone bytes file (subst (λ old. Torn 0 (length bytes) old file) c.new-file.ensures.empty c.write_at.ensures.others) c.in-Ok.ensures.written
