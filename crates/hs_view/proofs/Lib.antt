pub mod Acting
mod Examples
pub mod Fetching
pub mod Heads
pub mod Keeping
pub mod Pushing
pub mod Putting
pub mod Several
pub mod Sounds
pub mod Standing
pub mod Steps
pub mod Tables
