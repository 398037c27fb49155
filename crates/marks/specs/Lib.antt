-- Only how the reader works, and not to be believed: Marks.
pub mod Marks
