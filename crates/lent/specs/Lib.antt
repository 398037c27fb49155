-- State and Operations are to be believed, by who uses `drive`: the pairing that bytes hold, and the operations that a list of numbers names.
-- Given is for the contracts inside: the operations as the program has them.
pub mod State
pub mod Operations
pub mod Given
