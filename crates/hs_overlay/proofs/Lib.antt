mod Examples
pub mod Gathered
pub mod InputLaws
pub mod Knowledge
pub mod NameLaws
pub mod Overs
pub mod PathLaws
pub mod Piles
pub mod RoutingLaws
pub mod ShellLaws
pub mod ShownLaws
pub mod TableLaws
pub mod TreeLaws
