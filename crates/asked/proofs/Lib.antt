-- Asked: what an operation is answered by its kind, for the proofs of this crate's functions alone.
mod Asked
