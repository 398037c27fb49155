-- For the proofs of this crate's functions alone: Ends (where an operation ends, and its ids), Left (the operations that are still to come), and
-- Lists (a list of bytes, place by place).
mod Ends
mod Left
mod Lists
