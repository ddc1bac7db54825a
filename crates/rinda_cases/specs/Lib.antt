pub mod Makes
pub mod Requests
pub mod Flagged
pub mod Reads
