pub mod Options
pub mod Whole
pub mod Serving
pub mod Crossing
