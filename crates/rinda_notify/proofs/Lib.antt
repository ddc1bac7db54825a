pub mod Listed
pub mod Undone
pub mod Gone
pub mod Told
pub mod Ended
pub mod Grown
