pub mod Holders
pub mod Keeping
pub mod Changes
