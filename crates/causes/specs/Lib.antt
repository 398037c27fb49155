-- Both are to be believed: Given (what the lent bytes mean), Cause (refusal 10 and its causes).
pub mod Given
pub mod Cause
