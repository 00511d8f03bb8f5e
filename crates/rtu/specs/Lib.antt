pub mod Rtu
pub mod Cases
