-- The forest of a search, over any tables: what holds of it, walks in it, and that each step keeps it.
-- pairings in which a route with no partner is its own
pub mod Inside
pub mod Applied
-- the forest, and one walk up
pub mod Shape
pub mod Walk
-- the steps: to a route not reached, and a ring
pub mod Grow
pub mod Contract
-- two walks that store a ring, and the forest with its rings
pub mod Bow
pub mod State
pub mod Link
