pub mod Draft
pub mod Grammar
pub mod Machine
pub mod Spells
pub mod Tests
pub mod Told
