pub mod GiveUps
pub mod WorkerResult
pub mod Bag
pub mod LosslessRule
pub mod QueueFaults
pub mod Seats
pub mod Balance
