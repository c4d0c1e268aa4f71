use Rattle.std.proofs.Common.{◌≡◌, true, refl, sym, ap, ap₂, subst, ◌∙◌}
use Rattle.sqlite.specs.Effect.{Database}
use Rattle.sqlite.specs.Files.{AreFoundIn, HoldsDatabase, file_state}
use Rattle.dl_sqlite.specs.Image.{begins_well, image_from}
use Rattle.dl_sqlite.proofs.Images.{is_made, store_is_clean}
use Rattle.dl_sqlite.proofs.image.opened.Goals as goal

pub returns-in-Ok : goal.returns-in-Ok
returns-in-Ok c =
    let conn = c.in-Ok.conn in
    let clean = store_is_clean (λ _. refl) conn.store in
    let opened = c.in-Ok.ensures.opened clean in
    let found = c.in-Ok.ensures.found clean in
    let now = ap (λ (d : Database). d.trees) opened.0.clean in
    let files = ap₂ image_from c.in_ok-copy.ensures.bytes c.in_ok-log_copy.ensures.bytes in
    let begins : begins_well c.args.file.now ≡ true = sym c.begins_well.ensures ∙ c.if-not-begins_well.false in
    record {
      found = subst (λ image. AreFoundIn image (file_state conn).now.trees) files (subst (AreFoundIn (image_from _ _)) (sym now) found.reads);
      only = λ trees held. now ∙ found.holds trees (subst (λ image. HoldsDatabase image trees) (sym files) held);
      sound = (opened.1 opened.0.is_open).0;
      made = is_made (image_from c.args.file.now c.args.log.now) begins;
    }
