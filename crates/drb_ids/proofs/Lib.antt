pub mod StandingLists
pub mod TableLemmas
pub mod Reviving
pub mod Founds
pub mod Starting
