pub mod Requests
pub mod Replies
pub mod RoundTrip
pub mod Cases
