pub mod Cases
pub mod Parsed
pub mod Written
pub mod Spelt
