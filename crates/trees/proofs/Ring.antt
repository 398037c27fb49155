-- Rings of groups: as lists, as tables hold them, and exposed.
pub mod Pairs
pub mod Chain
pub mod Stored
pub mod Made
pub mod Exposed
