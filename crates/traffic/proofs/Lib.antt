pub mod Asked
mod Places
mod Answering
mod Nexts
pub mod Following
