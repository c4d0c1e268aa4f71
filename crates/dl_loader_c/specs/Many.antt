-- The load of several keys as C makes it.
use Rattle.std.specs.Prelude.{◌≡◌, ℕ, ◌<◌, ◌⊎◌, List, length, None}
use Rattle.dl_values.specs.Key.{Key}
use Rattle.dl_desk.specs.Service.{Service}
use Rattle.dl_desk.specs.declared.event.Call.TheVariants.{LoadMany}
use Rattle.dl_desk.specs.declared.event.Reply.TheVariants.{Many}
use Rattle.dl_desk.specs.declared.reply.LoadReply.{LoadReply}
use Rattle.dl_loader.specs.SerialLoader.{Serial}
use Rattle.dl_c_values.specs.declared.codes.TheConstants.{DONE, BAD_LENGTHS}
use Rattle.dl_loader_c.specs.declared.answers.LoadTicket.{LoadTicket}
use Rattle.dl_c_values.specs.declared.key_texts.KeyLengths.{KeyLengths}
use Rattle.dl_c_values.specs.KeyLists.{AreKeys, IsCutFault, cut}
use Rattle.dl_loader_c.specs.Answers.{tickets_as}
use Rattle.dl_loader_c.specs.Calls.{HasTickets, IsCallFault, Makes}

-- the loads were made, and the answers have their replies and their tickets
abbrev pub ManyAs : Service → ℕ → List Key → List LoadTicket → Serial → Serial → Type 0
ManyAs service caller ks answers old new = (replies : List LoadReply) × (first : ℕ) × (answers ≡ tickets_as first replies) × HasTickets first caller old
    × Makes service caller (LoadMany ks) (Many replies) old new

-- Why no keys are loaded: there are not as many answers as lengths; else no keys are cut; else the call is refused.
abbrev pub IsManyFault : Service → ℕ → List ℕ → List KeyLengths → ℕ → List LoadTicket → Serial → Type 0
IsManyFault service caller bytes ls code before s = ((code ≡ BAD_LENGTHS) × ¬ (length ls ≡ length before))
    ⊎ ((length ls ≡ length before)
    × (IsCutFault bytes ls code ⊎ (AreKeys bytes ls × IsCallFault service caller (LoadMany (cut bytes ls)) None s code)))

-- The answer to a load of the keys that the bytes are cut into.
pub record AnswersMany (service : Service) (caller : ℕ) (bytes : List ℕ) (ls : List KeyLengths) (code : ℕ) (before answers : List LoadTicket)
    (old new : Serial) : Type 0 where
  pub are_keys : code ≡ DONE → AreKeys bytes ls × (length ls ≡ length before)
  pub made : code ≡ DONE → ManyAs service caller (cut bytes ls) answers old new
  pub refused : DONE < code → (answers ≡ before) × (new ≡ old) × IsManyFault service caller bytes ls code before old
