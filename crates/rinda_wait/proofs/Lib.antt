pub mod Listed
pub mod Indexed
pub mod Searching
pub mod Ranges
pub mod Covering
