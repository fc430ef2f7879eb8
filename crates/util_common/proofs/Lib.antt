pub mod Filters
pub mod Refusing
