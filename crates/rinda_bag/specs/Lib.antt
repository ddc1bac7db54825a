pub mod Wanted
pub mod Tables
pub mod Changes
pub mod Indexes
pub mod Lending
pub mod Loans
