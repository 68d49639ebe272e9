pub mod Plants
pub mod Courses
pub mod Slots
pub mod Account
pub mod Lost
pub mod Words
pub mod Recorded
