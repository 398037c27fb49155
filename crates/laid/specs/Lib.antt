-- To be believed, by who uses `drive`: Answers, numbers laid down one after the other. Lays is for the contracts inside.
pub mod Answers
pub mod Lays
