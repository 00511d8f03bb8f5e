pub mod Answer
pub mod State
