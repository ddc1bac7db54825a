pub mod Crossing
pub mod Lasting
