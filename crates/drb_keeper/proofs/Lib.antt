pub mod Outer
pub mod Keeping
pub mod Aging
