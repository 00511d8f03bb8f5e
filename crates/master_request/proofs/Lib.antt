pub mod Unsayable
pub mod Limits
pub mod Bodies
pub mod AsSaid
pub mod Made
