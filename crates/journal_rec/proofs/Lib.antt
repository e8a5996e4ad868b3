pub mod Ascending
pub mod Bodies
pub mod Forms
pub mod Loop
pub mod Pushed
pub mod Sizes
pub mod Texts
pub mod Values
