pub mod Chains
pub mod Grows
pub mod Held
