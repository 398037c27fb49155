-- To be believed: Verdict (the number and the values of each verdict, and the checks 1 to 11, one by one).
pub mod Verdict
