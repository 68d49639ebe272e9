mod Assembled
mod Grouped
pub mod Made
