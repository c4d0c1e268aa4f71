pub mod Entries
pub mod CellRows
pub mod Codes
pub mod PassFields
pub mod PassCodes
