pub mod Commits
pub mod Leaves
pub mod Runs
pub mod Turns
