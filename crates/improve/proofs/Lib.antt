pub mod Meaning
mod Working
pub mod Calls
