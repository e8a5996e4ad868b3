pub mod Parts
pub mod Top
pub mod Work
