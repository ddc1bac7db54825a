pub mod Outer
pub mod Behind
pub mod Parts
