pub mod Laws
pub mod Places
pub mod Valid
pub mod Versions
pub mod Views
pub mod Widths
