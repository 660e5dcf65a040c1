pub mod Trie
pub mod Text
pub mod Tree
