pub mod Listed
pub mod Indexed
pub mod Searched
pub mod Kept
pub mod Ranged
pub mod Loans
