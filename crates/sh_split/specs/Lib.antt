pub mod Fields
pub mod Removal
pub mod Splitter
