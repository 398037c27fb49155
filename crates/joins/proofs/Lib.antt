-- For the crates above: Paths (the laws of augmenting). Steps is for the proofs of this crate's functions alone.
pub mod Paths
mod Steps
