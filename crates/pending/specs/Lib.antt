pub mod Held
pub mod Scanning
