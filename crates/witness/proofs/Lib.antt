-- For the crates above: Checker (what an accepted pairing is) and Verdicts (the checks in turn).
pub mod Verdicts
pub mod Checker
