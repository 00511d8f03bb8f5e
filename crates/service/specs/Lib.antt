pub mod Write
pub mod Serving
pub mod Cases
