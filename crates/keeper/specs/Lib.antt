pub mod Faults
pub mod Slots
pub mod Arming
pub mod Service
pub mod Promise
pub mod Guarantee
pub mod Serving
pub mod Words
