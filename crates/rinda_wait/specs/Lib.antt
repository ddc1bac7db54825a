pub mod Waiting
pub mod Table
pub mod Places
pub mod Probes
