pub mod Heard
pub mod Cases
