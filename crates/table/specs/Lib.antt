pub mod Names
pub mod Table
pub mod Address
pub mod Find
pub mod Unique
pub mod Cases
