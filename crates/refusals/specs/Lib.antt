-- To be believed: Reply (the refusals, and what each is told as).
pub mod Reply
