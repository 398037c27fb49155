-- For the crates above: Graphs (a pairing of a graph stays one), Handed (what is handed on is accepted). Steps is for the proofs of this
-- crate's functions alone.
pub mod Graphs
pub mod Handed
mod Steps
