-- Answers is for the proofs of this crate's functions alone.
mod Answers
