pub mod Courses
pub mod Steps
pub mod Outer
pub mod Standing
