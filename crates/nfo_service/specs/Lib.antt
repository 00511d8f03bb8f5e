pub mod Serve
pub mod Reply
