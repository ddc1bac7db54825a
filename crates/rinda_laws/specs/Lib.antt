pub mod Starting
pub mod Owns
pub mod Balance
pub mod Holds
pub mod Hears
pub mod Decides
