pub mod Matrix
pub mod Cursor
pub mod Sparse
