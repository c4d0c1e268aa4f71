mod Least
mod WorkerSteps
mod SeatSteps
mod NewSeats
mod Finish
mod Jobs
mod Steps
mod Totals
