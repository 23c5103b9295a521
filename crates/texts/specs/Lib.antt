pub mod Outcomes
pub mod Layers
pub mod Refusals
pub mod Stocks
