pub mod Tables
pub mod Rows
pub mod Edits
pub mod EditsLemmas
