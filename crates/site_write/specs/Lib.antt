pub mod Paste
pub mod Refusals
pub mod Writing
