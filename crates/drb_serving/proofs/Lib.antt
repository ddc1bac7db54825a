pub mod Passes
pub mod Readings
pub mod Ends
