-- What the contracts cite.
pub mod Known
pub mod Near
pub mod Halves
pub mod Example
