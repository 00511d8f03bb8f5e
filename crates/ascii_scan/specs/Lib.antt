pub mod Pairs
pub mod Scan
pub mod Cases
