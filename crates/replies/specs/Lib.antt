-- To be believed: Reply (what each refusal is told as, and the first among several).
pub mod Reply
