pub mod Cast
pub mod Eval
pub mod Laws
pub mod Row
pub mod Shape
pub mod Typing
pub mod Value
