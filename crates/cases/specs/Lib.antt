pub mod Hex
pub mod Differences
pub mod Runs
pub mod Words
pub mod Buffers
pub mod Lines
