-- To be believed, with Digits of the crate text: Lines (the bytes of each line of a report).
pub mod Lines
