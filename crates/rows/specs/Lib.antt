pub mod Sheet
pub mod Lookup
