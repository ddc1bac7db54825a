pub mod Statuses
pub mod Requests
pub mod Lines
pub mod Commands
pub mod Parts
