pub mod Records
pub mod Story
pub mod Attaching
pub mod Kept
pub mod Laws
