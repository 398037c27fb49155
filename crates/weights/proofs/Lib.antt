-- For the crates above: Weights (the counts are the definition's, and small), Signed (their difference fits).
pub mod Weights
pub mod Signed
