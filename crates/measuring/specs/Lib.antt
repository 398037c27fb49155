-- To be believed: Measures, what the calls for surplus and parts answer.
pub mod Measures
