-- Only how the reader works, and not to be believed: OneEntry.
pub mod OneEntry
