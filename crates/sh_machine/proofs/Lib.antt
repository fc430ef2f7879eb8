pub mod Begun
pub mod Enclosed
pub mod Kept
pub mod Refused
