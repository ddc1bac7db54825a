pub mod Peerings
