-- What event calls answer other than tickets and jobs.
use Rattle.std.specs.Prelude.{ℕ, cond}
use Rattle.dl_desk.specs.declared.event.Reply.{Reply}
use Rattle.dl_desk.specs.declared.event.Reply.TheVariants.{Primed, Kept}
use Rattle.dl_loader.specs.declared.reply.PrimeReply.{PrimeReply}
use Rattle.dl_loader.specs.declared.reply.PrimeReply.TheVariants as prime

-- the reply to a prime, as the history has it
abbrev pub reply_by : PrimeReply → Reply
reply_by (prime.Primed cell shown) = Primed cell
reply_by prime.Kept = Kept

-- how many cells refused the outcome of a prime
abbrev pub refused_by : PrimeReply → ℕ
refused_by (prime.Primed cell shown) = cond shown 0 1
refused_by prime.Kept = 0
