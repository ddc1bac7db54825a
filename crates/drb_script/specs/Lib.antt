pub mod Acting
pub mod Scripts
pub mod Rest
pub mod Stands
pub mod Laws
