pub mod Rising
pub mod Waits
pub mod Tells
pub mod Gives
pub mod Served
