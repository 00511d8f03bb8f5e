pub mod Units
pub mod Words
pub mod Answered
pub mod Only
pub mod Sizes
