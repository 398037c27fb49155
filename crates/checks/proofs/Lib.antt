-- For the crates above: Replies and Exactly (when each refusal is given).
pub mod Replies
pub mod Exactly
