pub mod Undoing
pub mod Asking
pub mod Deadlines
pub mod Holds
pub mod Tabled
pub mod Dues
pub mod Changed
pub mod Starting
