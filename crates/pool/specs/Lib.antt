pub mod Pools
pub mod Makings
