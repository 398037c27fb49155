-- To be believed: Partners (who is whose partner, pairing and augmenting, over the list of partners).
pub mod Partners
