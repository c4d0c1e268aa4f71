use Rattle.std.proofs.Common.{◌≡◌, ◌<◌, length, inl, inr, refl, arith}
use Rattle.dl_c_values.specs.declared.codes.TheConstants.{DONE, BAD_KEY}
use Rattle.dl_values.specs.KeyTexts.{IsKeyText}
use Rattle.dl_c_values.specs.KeyLists.{front_key, key_width}
use Rattle.dl_c_values.proofs.Cuts.{fault_code}
use Rattle.dl_loader_c.proofs.many.load_cut.Goals as goal

pub returns-in-Err : goal.returns-in-Err
returns-in-Err g c =
    let refuses : DONE < c.in-Err.code = fault_code key_width front_key IsKeyText BAD_KEY (omega arith) c.args.texts.now c.args.lengths.now c.in-Err.code c.in-Err.ensures.fault in
    let as_many : length c.args.lengths.now ≡ length c.args.answers.now = omega arith in
    record {
      are_keys = λ done. absurd (omega (arith, done));
      made = λ done. absurd (omega (arith, done));
      refused = λ _. (refl, refl, inr (as_many, inl c.in-Err.ensures.fault));
    }
