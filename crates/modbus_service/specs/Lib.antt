pub mod Serve
pub mod Reply
pub mod Cases
