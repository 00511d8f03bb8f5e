pub mod Laws
pub mod Masks
pub mod Righted
pub mod Flagging
