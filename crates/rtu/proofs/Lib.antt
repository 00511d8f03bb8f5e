pub mod Cases
pub mod Frames
pub mod Replies
pub mod RoundTrip
