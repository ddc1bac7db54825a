pub mod Cuts
pub mod Digits
pub mod Ascii
pub mod Held
