pub mod Shown
pub mod Tables
pub mod Marks
