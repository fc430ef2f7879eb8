pub mod Doing
pub mod Earlier
pub mod States
pub mod Stepping
