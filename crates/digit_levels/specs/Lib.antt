pub mod Levels
pub mod Matrix
pub mod Reads
