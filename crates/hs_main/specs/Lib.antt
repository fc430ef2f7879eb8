pub mod Start
pub mod Top
