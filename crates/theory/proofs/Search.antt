-- The search is right: the theorems are in `Searched` (one search), `Improved` (at most b) and `Counters` (how much it does).
-- computed, before anything is shown
pub mod Runs
pub mod Cases
-- a closed forest meets the bound
pub mod Tight
-- cells after stores; labels and queue
pub mod Cells
pub mod Line
-- the invariant, and that each step keeps it
pub mod Ready
pub mod Grow
pub mod Shift
pub mod Contract
pub mod Look
pub mod Start
-- the pairs of a found edge
pub mod Expose
pub mod Raise
pub mod Outside
-- the theorems
pub mod Searched
pub mod Improved
pub mod Counters
-- laws for the loops of code
pub mod Steps
-- the theorems, used
pub mod Uses
