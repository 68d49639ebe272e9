pub mod Kept
pub mod Rounds
pub mod Rules
mod Found
mod Searched
mod Supports
mod Midway
mod Steady
pub mod Admitted
pub mod Choosing
pub mod Sustained
pub mod Counsel
pub mod Filled
pub mod Solved
