pub mod Script
pub mod ScriptRun
pub mod Terms
pub mod Steps
pub mod TableNumbers
pub mod OwnLimits
pub mod Tables
pub mod Document
pub mod OverDatabase
pub mod Faults
pub mod Numbers
pub mod Reading
pub mod TermReading
pub mod StepReading
-- words of private functions, and of what values are made of
pub mod Inside
