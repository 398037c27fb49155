-- For the crates above: Replies and Exactly (when each refusal is given), Ids (what is read at a position).
pub mod Replies
pub mod Exactly
pub mod Ids
