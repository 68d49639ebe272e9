mod Sized
mod Told
