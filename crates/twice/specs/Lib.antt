-- To be believed: Two, what two calls of improve in a row answer and leave.
pub mod Two
