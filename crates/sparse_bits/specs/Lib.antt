pub mod Answers
pub mod Error
pub mod Looks
pub mod Positions
pub mod Value
