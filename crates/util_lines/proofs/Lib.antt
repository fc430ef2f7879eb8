mod Examples
mod GrepExamples
pub mod ByteSets
pub mod ByteTables
pub mod Compared
pub mod Counted
pub mod Filed
pub mod Hand
pub mod Lined
pub mod LinesWritten
pub mod Merged
pub mod Occurring
pub mod Plain
pub mod Searched
pub mod Splits
pub mod Squeezed
pub mod Stable
pub mod Told
pub mod Totals
pub mod TrExamples
pub mod Uniqued
pub mod Whole
pub mod Written
pub mod Zeros
