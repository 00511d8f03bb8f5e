pub mod Handed
pub mod Line
