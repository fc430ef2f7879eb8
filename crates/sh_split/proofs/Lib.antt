mod Examples
pub mod Separating
pub mod SoFar
