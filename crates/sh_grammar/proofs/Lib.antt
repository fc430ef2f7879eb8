pub mod Complete
pub mod Examples
pub mod Reading
pub mod Sound
pub mod Tests
pub mod Unique
