-- For the crates above: Sound (freeing and pairing, id by id, and the count). Steps is for the proofs of this crate's functions alone.
pub mod Sound
mod Steps
