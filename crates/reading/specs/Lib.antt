pub mod Read
pub mod Cases
