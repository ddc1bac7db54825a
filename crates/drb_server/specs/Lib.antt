pub mod Words
pub mod Named
pub mod Runs
pub mod ServeWords
pub mod Serving
pub mod Statuses
