-- How a search goes, and what it promises. It need not be believed for whether a plan is shortest: the witness shows that.
-- the search for one pair more
pub mod Search
