-- Forms that only the contracts of private functions cite.
pub mod FeedbackWords
pub mod Groups
pub mod Solving
pub mod TapsOf
