pub mod Own
pub mod Seated
