pub mod Own
pub mod Many
