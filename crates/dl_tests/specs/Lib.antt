pub mod CountedTables
pub mod NoRoom
