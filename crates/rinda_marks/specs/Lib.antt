pub mod Hashes
pub mod Marks
pub mod Opening
pub mod Laws
