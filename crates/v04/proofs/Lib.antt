pub mod Calls
pub mod Pairs
pub mod RowReads
pub mod SpanEdits
pub mod TypedMaps
pub mod Whole
