-- To be believed: Longs, what the bytes of an answer are.
pub mod Longs
