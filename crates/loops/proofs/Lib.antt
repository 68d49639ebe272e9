mod Fill
mod Numbered
pub mod Bounds
mod Walk
mod RegionAnswers
