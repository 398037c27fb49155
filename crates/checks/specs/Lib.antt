-- To be believed, with Partners of the crate mates and Reply of the crate refusals: Checks (the refusals of a table, and of one id or two, and their order).
pub mod Checks
