pub mod Limits
pub mod Written
pub mod Laws
