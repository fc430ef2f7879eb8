pub mod Calls
pub mod Going
pub mod Moves
pub mod Rest
pub mod Shells
pub mod Sums
pub mod Weights
