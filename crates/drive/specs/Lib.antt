-- To be believed, with State and Operations of the crate lent, Replies of asked and Answers of laid: Drive (what all operations leave and say).
pub mod Drive
