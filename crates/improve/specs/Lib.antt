-- To be believed: Choice (what a call leaves, as functions of the bytes lent) and Promise (what that means, beside the customer's third demand).
pub mod Choice
pub mod Promise
