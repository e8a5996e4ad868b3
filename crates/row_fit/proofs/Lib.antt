pub mod PairedRows
pub mod Rests
