pub mod Draws
pub mod Listing
pub mod Steps
