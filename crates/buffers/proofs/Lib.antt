-- The lent bytes as tables: for the proofs of this crate's functions, and for the crates above.
pub mod Written
