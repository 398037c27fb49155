-- Room (every text has room) and Shown (what an accepted sheet's text shows) are for readers; Whole is for the proofs of this crate's
-- functions alone.
pub mod Room
mod Whole
pub mod Shown
