pub mod Lives
pub mod Classes
pub mod Keys
pub mod Tuples
pub mod Ranges
pub mod Matching
