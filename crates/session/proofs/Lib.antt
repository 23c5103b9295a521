pub mod Lines
pub mod Reading
pub mod Writing
pub mod Buffers
pub mod Texts
pub mod Hexes
