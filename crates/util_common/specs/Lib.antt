pub mod Messages
pub mod Operands
pub mod Words
