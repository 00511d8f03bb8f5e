pub mod Parts
pub mod Replies
pub mod Cases
