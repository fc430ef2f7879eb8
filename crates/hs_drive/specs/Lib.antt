pub mod Commit
pub mod Direct
pub mod Ending
pub mod Joined
pub mod Plain
pub mod Ran
pub mod Through
