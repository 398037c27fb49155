-- For the proofs of this crate's functions and for `drive`: Laying (numbers laid down), Stretches (what `Answers` lays down, one behind the other).
pub mod Laying
pub mod Stretches
