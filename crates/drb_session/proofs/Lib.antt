pub mod Small
pub mod Calling
pub mod Joining
pub mod Wholes
pub mod Completing
pub mod OfSpace
