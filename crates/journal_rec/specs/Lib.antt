pub mod Body
pub mod Laws
pub mod Reading
pub mod Size
