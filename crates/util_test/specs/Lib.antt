pub mod Constant
pub mod Expressions
pub mod Numbers
pub mod Operators
pub mod Testing
