-- What the source of a loader keeps to.
use Rattle.std.proofs.Common.{List}
use Rattle.dl_values.specs.Answering.{Answering, Fits, IsWithin}
use Rattle.dl_source.specs.Source.{answer_is_for}
use Rattle.dl_values.specs.declared.outcome.BatchAnswer.TheVariants.{Each}
use Rattle.dl_desk.specs.Service.{AnswersEach}

-- what answers no more than a source does has an outcome for each key, where it does not break
pub source_answers : (source own : Answering) → Fits source → IsWithin own source → AnswersEach own
source_answers source own fits no_more ks os may = answer_is_for source fits ks (Each os) (no_more ks (Each os) may)
