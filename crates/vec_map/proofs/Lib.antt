pub mod Tests
pub mod Steps
pub mod Laws
pub mod Moves
pub mod Turns
