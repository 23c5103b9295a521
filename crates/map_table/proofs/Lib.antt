pub mod Stretches
pub mod Placed
pub mod Rowwise
pub mod RowEdits
