-- To be believed: Twos, a signed number as an answer holds it.
pub mod Twos
