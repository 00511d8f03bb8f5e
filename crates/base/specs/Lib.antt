pub mod Choice
pub mod Bytes
pub mod Buffers
pub mod Order
