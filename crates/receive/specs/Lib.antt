pub mod Calls
pub mod Receive
