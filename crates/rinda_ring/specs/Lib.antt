pub mod Lookups
pub mod Blocks
pub mod Tasks
pub mod Rings
