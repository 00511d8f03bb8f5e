pub mod Refusals
pub mod Permit
pub mod Cases
