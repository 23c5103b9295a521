pub mod Edits
pub mod Maps
pub mod Marks
pub mod Shown
pub mod Tables
