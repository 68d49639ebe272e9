pub mod Verdicts
pub mod Tells
