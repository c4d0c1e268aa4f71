pub mod Options
pub mod AnswersStay
pub mod AnswersWithoutWaits
mod RuleAnswers
mod DepthBound
pub mod Substitution
mod WorkedExamples
mod Views
mod Frames
pub mod TermViews
pub mod AskedKeys
pub mod Reductions
pub mod Bodies
mod NamedParts
mod WholeNumbers
mod PartAnswers
mod AnswerParts
pub mod WaitingKeys
mod NeededKeys
