pub mod Bcc
pub mod Lrc
pub mod Crc
pub mod Examples
