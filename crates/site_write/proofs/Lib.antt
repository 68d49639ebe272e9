mod Pastes
mod Saved
mod Lengths
