-- To be believed, by who uses `drive`: Replies, what an operation answers, as numbers, and Kinds, which code names which operation.
pub mod Kinds
pub mod Replies
