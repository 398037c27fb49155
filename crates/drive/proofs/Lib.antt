-- Steps (a list of operations, one after the other) is for the proofs of this crate's functions alone.
mod Steps
