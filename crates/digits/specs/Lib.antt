pub mod Answers
pub mod Digits
pub mod Laws
pub mod Reads
pub mod Search
pub mod Tables
