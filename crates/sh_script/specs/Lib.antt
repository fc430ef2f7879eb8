pub mod Answers
pub mod FirstBad
pub mod Longest
pub mod Openings
pub mod Readings
pub mod Turns
