pub mod Distinct
pub mod Measures
pub mod Nodes
pub mod Told
