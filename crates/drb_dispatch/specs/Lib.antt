pub mod Methods
pub mod Faults
pub mod Checks
pub mod Calls
pub mod Plans
