-- For the crate entries: Last (what the table says, place by place).
pub mod Last
