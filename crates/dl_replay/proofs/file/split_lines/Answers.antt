use Rattle.std.proofs.Common.{◌≤◌, ◌+◌, ◌-◌, ℕ, length, take, drop, ap, sym, ◌∙◌, arith}
use Rattle.std.proofs.lemmas.List.{take_all, drop_all, length-drop}
use Rattle.std.specs.List.{position_or_len}
use Rattle.dl_replay.specs.File.{ends_line}
use Rattle.dl_replay.proofs.Lists.{place_found, none_found}
use Rattle.dl_replay.proofs.file.split_lines.Goals as goal

pub returns-in-Some-clause-first : goal.returns-in-Some-clause-first
returns-in-Some-clause-first c =
    ap (λ (n : ℕ). take n c.args.bytes.now) (sym (place_found ends_line c.args.bytes.now c.in-Some.at c.in-Some.ensures))

pub returns-in-Some-clause-next : goal.returns-in-Some-clause-next
returns-in-Some-clause-next c =
    let bytes = c.args.bytes.now in
    let at = c.in-Some.at in
    take_all (length bytes - (at + 1)) (drop (at + 1) bytes) (omega (arith, length-drop (at + 1) bytes))
    ∙ ap (λ (n : ℕ). drop (n + 1) bytes) (sym (place_found ends_line bytes at c.in-Some.ensures))

pub returns-in-None-clause-first : goal.returns-in-None-clause-first
returns-in-None-clause-first c =
    sym (take_all (position_or_len ends_line c.args.bytes.now) c.args.bytes.now (none_found ends_line c.args.bytes.now c.in-None.ensures))

pub returns-in-None-clause-next : goal.returns-in-None-clause-next
returns-in-None-clause-next c =
    let bytes = c.args.bytes.now in
    let all : length bytes ≤ position_or_len ends_line bytes = none_found ends_line bytes c.in-None.ensures in
    sym (drop_all (position_or_len ends_line bytes + 1) bytes (omega (arith, all)))
