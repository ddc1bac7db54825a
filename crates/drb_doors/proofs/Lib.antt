pub mod Limiting
