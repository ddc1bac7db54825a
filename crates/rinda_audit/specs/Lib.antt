pub mod Aging
pub mod Changes
pub mod Finds
pub mod Asks
pub mod Counts
pub mod Replays
pub mod Stored
