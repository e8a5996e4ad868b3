pub mod Least
pub mod Unlike
pub mod Beside
pub mod Lawful
