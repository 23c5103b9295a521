mod Calls
mod Single
