pub mod Enclosing
pub mod Numbered
pub mod Numbers
pub mod Steps
pub mod Taken
