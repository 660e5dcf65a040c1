pub mod Hints
pub mod Sections
