pub mod Characters
pub mod RoundTrip
pub mod Capitals
pub mod Laws
