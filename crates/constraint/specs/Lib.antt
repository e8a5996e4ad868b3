pub mod Inner
pub mod Laws
pub mod Names
pub mod Valid
