pub mod Answers
pub mod Outgoing
pub mod Steps
pub mod Laws
