pub mod Hash
pub mod Prints
pub mod Strings
pub mod Dictionary
pub mod Seeded
