pub mod Guard
pub mod Inverted
pub mod Numbered
pub mod Primes
