pub mod Checksum
pub mod Error
pub mod Header
pub mod Layout
pub mod Written
