pub mod Lists
pub mod Origin
pub mod Views
pub mod Rule
pub mod Told
pub mod Seats
