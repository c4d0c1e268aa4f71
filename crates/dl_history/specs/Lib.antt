pub mod History
pub mod Lists
pub mod Entries
pub mod Agreement
pub mod Journal
pub mod LoaderState
pub mod ClosedHistory
pub mod CellNames
pub mod Flags
pub mod Pass
pub mod Additions
pub mod Accounts
pub mod Faults
pub mod Record
pub mod Laws
-- words of private functions, and of what values are made of
pub mod Inside
