pub mod Outer
pub mod Telling
pub mod Popping
pub mod Courses
pub mod Faulting
pub mod Messages
pub mod Calls
