pub mod CarriedJobs
pub mod EqualAnswers
pub mod Faults
pub mod Headline
pub mod Inside
pub mod OwnAnswers
pub mod Report
pub mod Setup
