-- For the crates above: Counted (what a loop and a chain that count come to).
pub mod Counted
