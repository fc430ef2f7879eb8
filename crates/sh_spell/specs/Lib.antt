pub mod Layout
pub mod Plain
pub mod Scripts
pub mod Seen
pub mod Steps
pub mod Tidy
pub mod Turns
