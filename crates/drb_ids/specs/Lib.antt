pub mod Ids
pub mod Found
pub mod Standings
