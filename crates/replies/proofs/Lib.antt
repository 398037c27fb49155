-- For the crates above: Firsts (the first refusal, turn by turn, and when it is which).
pub mod Firsts
