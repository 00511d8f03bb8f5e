pub mod Plant
pub mod Flags
pub mod Status
pub mod Faults
pub mod Events
pub mod Flagging
pub mod Cases
