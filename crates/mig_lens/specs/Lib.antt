pub mod Laws
pub mod Layout
pub mod Lens
pub mod Plan
pub mod Versions
