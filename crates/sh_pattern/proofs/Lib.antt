pub mod Stars
pub mod Greatest
pub mod Listed
pub mod Tables
pub mod Skipped
pub mod Examples
