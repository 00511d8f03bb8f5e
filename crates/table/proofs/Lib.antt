pub mod Apart
pub mod Lookup
pub mod Columns
