-- The words of private functions, which no public clause reaches.
pub mod StepsSoFar
pub mod Reads
