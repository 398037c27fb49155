-- To be believed: Held, what the lent bytes of a pairing hold.
pub mod Held
