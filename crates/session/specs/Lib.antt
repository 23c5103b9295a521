pub mod Lines
pub mod Numerals
pub mod Texts
pub mod Buffers
pub mod Faults
pub mod Kinds
pub mod Values
