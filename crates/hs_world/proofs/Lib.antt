pub mod Balance
pub mod Copies
pub mod Emits
mod Examples
pub mod Folders
pub mod Indexes
pub mod Frames
pub mod InFolders
pub mod Laws
pub mod LocOrder
pub mod Maps
pub mod Names
pub mod Passing
pub mod Stacks
pub mod Trees
