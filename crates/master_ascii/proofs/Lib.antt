pub mod Requests
pub mod Texts
pub mod Replies
pub mod RoundTrip
pub mod Cases
