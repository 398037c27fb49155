-- To be believed: Calls, what an exported call answers, and what the checker does.
pub mod Calls
