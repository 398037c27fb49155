-- What is to be believed, from the bottom up. What follows from it is under proofs/ and is checked.
-- counting the numbers below a number
pub mod Count
-- a graph as its rows, and when it is simple
pub mod Graph
-- the parts that are left when the routes of a set are taken away
pub mod Parts
-- the surplus of a set
pub mod Surplus
-- the layouts marked P, with the surplus that each has to have
pub mod Layouts
-- a pairing, its pairs, its unpaired routes and its sessions
pub mod Pairing
-- the largest size of a pairing
pub mod Largest
-- a plan of sessions
pub mod Plan
