pub mod Acted
pub mod Chosen
pub mod Components
pub mod Entries
mod Examples
pub mod FileTrees
pub mod Found
pub mod Ordered
pub mod Reaching
pub mod Sets
pub mod Somewhere
pub mod Specials
pub mod Splits
pub mod Whole
