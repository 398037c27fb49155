pub mod Stretches
pub mod Slots
