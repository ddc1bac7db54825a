pub mod Ages
pub mod Asks
pub mod Counting
pub mod Heard
pub mod Nodes
pub mod Pops
pub mod Replaying
pub mod Storing
