-- For the crates above: Replies (which reply does not refuse, when the first of two does not, and what a reply is told as).
pub mod Replies
