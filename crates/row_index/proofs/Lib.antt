pub mod Present
pub mod Indexing
pub mod Looping
