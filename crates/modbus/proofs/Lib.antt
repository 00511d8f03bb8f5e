pub mod Laws
pub mod Copying
pub mod Objects
pub mod Written
pub mod Units
pub mod Buffers
