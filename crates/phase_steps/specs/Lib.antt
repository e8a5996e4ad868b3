pub mod Laws
pub mod Phases
pub mod Places
pub mod Rows
