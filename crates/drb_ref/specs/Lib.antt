pub mod Uris
pub mod Exceptions
pub mod Causes
pub mod Blocks
