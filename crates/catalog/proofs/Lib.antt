pub mod Constraints
pub mod Named
pub mod Positions
pub mod Shown
