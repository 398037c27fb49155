-- To be believed: Digits (the bytes of a number). Put is how the code comes to a text.
pub mod Digits
pub mod Put
