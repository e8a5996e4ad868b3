pub mod Blocks
pub mod Building
pub mod Input
pub mod Names
pub mod Pieces
pub mod Script
pub mod Steps
