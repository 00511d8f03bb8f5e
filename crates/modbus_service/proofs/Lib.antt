pub mod Laws
pub mod Replies
pub mod Fitting
pub mod Sending
