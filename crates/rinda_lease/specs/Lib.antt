pub mod Stages
pub mod Orders
