mod Taken
mod Soundness
mod Settled
mod Course
mod Guaranteed
mod Performed
mod KeptPromise
