pub mod Outer
pub mod Reading
pub mod Replying
pub mod Ringing
pub mod Ruled
