-- The search for one pair more (Edmonds), as functions on lists in the shape of the code, from the bottom up.
-- the tables of a search, and how a cell is read and set
pub mod Tables
-- the tables before the first step
pub mod Start
-- a step to a route not reached, and to its partner
pub mod Grow
-- a ring becomes a group
pub mod Rings
-- one entry, one row, all the rows
pub mod Look
-- the pairs that an edge between two trees brings
pub mod Expose
-- one search, and at most b of them
pub mod Searched
-- what they promise
pub mod Promise
-- how far a search goes
pub mod Bounds
