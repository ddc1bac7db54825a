pub mod Roomless
