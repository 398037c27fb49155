-- To be believed, with Partners of the crate mates and Reply of the crate refusals: Paths (the refusals of a path, and their order).
pub mod Paths
