-- For the crates above: Given (when each refusal is given), Read (what an accepted sheet is).
pub mod Given
pub mod Read
