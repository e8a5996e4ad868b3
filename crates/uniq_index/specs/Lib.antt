pub mod Indexed
pub mod Laws
pub mod Scan
