-- For the crates above: Putting (one thing put after another), Digits (the digits of a number, read again, are the number).
pub mod Putting
pub mod Digits
