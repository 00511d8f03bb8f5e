pub mod Turned
pub mod Stream
pub mod Turn
