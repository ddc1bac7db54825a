pub mod Notes
pub mod Chains
pub mod Undoing
pub mod Tables
pub mod Laws
pub mod Changed
