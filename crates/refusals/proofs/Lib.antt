-- The laws of lines in checking order and of outcomes.
pub mod FirstLine
pub mod Outcome
pub mod Rows
