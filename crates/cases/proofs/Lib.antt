pub mod Ends
pub mod Reading
pub mod RunsRead
pub mod Words
pub mod Buffers
pub mod InOne
