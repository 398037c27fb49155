-- To be believed, with Partners of the crate mates, Reply of the crate refusals, Checks of the crate checks, Paths of the crate paths and Listing of the crate
-- listing: Answers (what each operation answers).
pub mod Answers
