pub mod Tests
pub mod Lists
pub mod Sets
pub mod Order
pub mod Arms
