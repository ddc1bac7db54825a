pub mod Spaces
pub mod Begins
pub mod Entered
