pub mod Positions
pub mod Numbers
pub mod Groups
pub mod Seeds
pub mod Building
pub mod Free
pub mod Parts
