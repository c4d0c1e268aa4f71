pub mod Asked
pub mod Media
pub mod AnswerJson
pub mod RefusalJson
pub mod Responses
pub mod Answers
pub mod Source
