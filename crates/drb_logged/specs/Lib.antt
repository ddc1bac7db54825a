pub mod Logging
