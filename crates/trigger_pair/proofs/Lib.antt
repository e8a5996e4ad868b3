pub mod Halves
pub mod PairedRows
pub mod Places
