pub mod Xor
pub mod Laws
pub mod Steps
