pub mod Listings
pub mod Turns
