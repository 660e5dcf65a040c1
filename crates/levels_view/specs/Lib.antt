pub mod Answers
pub mod Check
pub mod Laws
pub mod Levels
pub mod Quarters
pub mod Ranges
pub mod Walk
