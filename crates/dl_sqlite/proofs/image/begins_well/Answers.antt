use Rattle.std.proofs.Common.{◌≡◌, length, take, min, ap, ap₂, ◌∙◌, arith}
use Rattle.std.proofs.lemmas.List.{take_min}
use Rattle.std.specs.Prelude.{bytes_eq}
use Rattle.dl_sqlite.proofs.image.begins_well.Goals as goal

pub returns : goal.returns
returns c =
    let file = c.args.file.now in
    let n : c.min.result ≡ min 16 (length file) = omega (arith, c.min.ensures) in
    c.eq.ensures ∙ ap₂ bytes_eq (ap (λ n. take n file) n ∙ take_min 16 file) c.as_slice.ensures
