-- To be believed, with Reply of the crate replies and Entries of the crate entries: Reply (the refusals and their order). Conditions has the words
-- for the law that says when each refusal is given, and Size what the number of edges is.
pub mod Reply
pub mod Conditions
pub mod Size
