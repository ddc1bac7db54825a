pub mod Steps
pub mod Keys
pub mod Bytes
pub mod Reaches
pub mod Forms
