pub mod Digits
pub mod Names
pub mod Ranges
pub mod Simple
pub mod Utf8
