pub mod Sites
pub mod Files
pub mod Outcomes
pub mod Facts
pub mod Figures
