-- For the crates above: Lowest (the lowest number that passes, where there is one). Causes is for the proofs of this crate's functions alone.
mod Causes
pub mod Lowest
