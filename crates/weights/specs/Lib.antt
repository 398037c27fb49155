-- To be believed: Weight (the odd parts, the size of a set, and the names of its parts).
pub mod Weight
