pub mod Judgings
pub mod Cutting
pub mod FirstLines
pub mod Guardings
