pub mod Causes
pub mod Outside
pub mod Memory
pub mod Disk
pub mod Replay
pub mod Fuse
pub mod Laws
