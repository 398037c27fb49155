-- For the crate entries: Table (what the table says, mark by mark).
pub mod Table
