pub mod Classes
pub mod Greedy
pub mod Items
pub mod Match
pub mod Sets
