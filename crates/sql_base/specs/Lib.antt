pub mod Fit
pub mod Laws
pub mod Mapped
pub mod Outcome
pub mod Text
pub mod Tree
pub mod Weight
