-- To be believed: ImproveCall, what the call for more pairs answers and leaves.
pub mod ImproveCall
