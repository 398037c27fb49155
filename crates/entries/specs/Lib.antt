-- To be believed: Entries (the refusals 4 to 7 and their order). Only how the reader works, and not to be believed: Quick.
pub mod Entries
pub mod Quick
