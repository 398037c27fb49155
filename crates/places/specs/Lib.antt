-- Only how the reader works, and not to be believed: Places.
pub mod Places
