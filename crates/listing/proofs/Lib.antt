-- For the crates above: Pairs (the order is twice the number of pairs). Steps and Padded are for the proofs of this crate's functions alone.
pub mod Pairs
mod Steps
mod Padded
