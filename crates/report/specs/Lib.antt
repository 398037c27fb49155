-- To be believed, with Lines of the crate lines and Digits of the crate text: Text (the bytes that are written for an input). Start is how the code
-- comes to them.
pub mod Text
pub mod Start
