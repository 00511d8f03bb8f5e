pub mod Request
pub mod Answer
pub mod Reply
pub mod Cases
