-- The load of several keys as C makes it.
use Rattle.std.specs.Prelude.{◌≡◌, ℕ, ◌<◌, ◌⊎◌, List, length, map}
use Rattle.std.specs.List.{All}
use Rattle.dl_desk.specs.History.{Atom, load_replies}
use Rattle.dl_desk.specs.declared.call.DeskCall.TheVariants.{LoadMany}
use Rattle.dl_desk.specs.BatchBook.{BatchBook, StandsFor}
use Rattle.dl_c_values.specs.declared.codes.TheConstants.{DONE, BAD_LENGTHS}
use Rattle.dl_c_values.specs.declared.answers.Loaded.{Loaded}
use Rattle.dl_c_values.specs.declared.key_texts.KeyLengths.{KeyLengths}
use Rattle.dl_c_values.specs.Answers.{loaded_as}
use Rattle.dl_c_values.specs.KeyLists.{AreKeys, IsCutFault, cut, total}
use Rattle.dl_values.specs.KeyTexts.{IsKeyText}
use Rattle.dl_c.specs.Calls.{Makes, Refuses}

-- Why no keys are loaded: there are not as many answers as lengths; else no keys are cut; else the call is refused.
abbrev pub IsManyFault : List ℕ → List KeyLengths → ℕ → List Loaded → BatchBook → BatchBook → Type 0
IsManyFault bytes ls code before old new = ((code ≡ BAD_LENGTHS) × ¬ (length ls ≡ length before))
    ⊎ ((length ls ≡ length before) × (IsCutFault bytes ls code ⊎ (AreKeys bytes ls × Refuses old (LoadMany (cut bytes ls)) code new)))

-- The answer to a load of the keys that the bytes are cut into.
pub record AnswersMany (bytes : List ℕ) (ls : List KeyLengths) (code : ℕ) (before answers : List Loaded) (old new : BatchBook) : Type 0 where
  pub are_keys : code ≡ DONE → All IsKeyText (cut bytes ls)
  pub whole : code ≡ DONE → (total ls ≡ length bytes) × (length ls ≡ length before)
  pub made : code ≡ DONE → Makes old (LoadMany (cut bytes ls)) new
  pub cells : code ≡ DONE → (history : List Atom) → StandsFor old history → answers ≡ map loaded_as (load_replies old.rules history (cut bytes ls))
  pub refused : DONE < code → (answers ≡ before) × (new ≡ old)
  pub cause : DONE < code → IsManyFault bytes ls code before old new
