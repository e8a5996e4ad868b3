pub mod Counting
pub mod FirstLine
pub mod Fronts
pub mod Growing
pub mod Heads
pub mod ReadOn
pub mod ReadTo
pub mod Standing
