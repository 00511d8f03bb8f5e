pub mod Shape
pub mod Message
pub mod Scan
pub mod Cases
