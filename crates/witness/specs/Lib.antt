-- To be believed, with Given and Cause of the crate causes, Verdict of the crate verdicts and Weight of the crate weights: Verdict (the refusals
-- 1 to 12, in their order, and the answers), Promise (what an accepted pairing is).
pub mod Verdict
pub mod Promise
