pub mod Words
pub mod Asked
pub mod Bytes
pub mod Heard
pub mod Answered
pub mod Tested
pub mod Cases
pub mod Unsayable
