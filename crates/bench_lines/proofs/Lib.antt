pub mod Laws
mod Decimal
