pub mod Ask
pub mod Said
