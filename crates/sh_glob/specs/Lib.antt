pub mod Matches
pub mod Parts
pub mod Paths
pub mod Places
pub mod Texts
