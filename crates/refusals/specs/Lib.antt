-- What an answer stands for, and the first line that holds.
pub mod Lines
pub mod Outcome
