-- To be believed, with Partners of the crate mates: Listing (the pairs of a table, by lower id).
pub mod Listing
