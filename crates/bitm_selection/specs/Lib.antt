pub mod Hints
pub mod Selection
