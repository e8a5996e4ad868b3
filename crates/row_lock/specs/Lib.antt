pub mod Apart
pub mod Held
pub mod Holding
pub mod Laws
