pub mod Causes
pub mod Hosts
pub mod Memory
pub mod Streams
