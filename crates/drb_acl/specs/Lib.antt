pub mod Judging
pub mod Patterns
pub mod Cuts
pub mod Reading
pub mod Steps
pub mod Laws
pub mod FirstWrong
pub mod Guarding
