pub mod Identifier
pub mod Keys
pub mod Laws
pub mod Lexing
pub mod Printing
