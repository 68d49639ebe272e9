pub mod Lawful
pub mod Checked
