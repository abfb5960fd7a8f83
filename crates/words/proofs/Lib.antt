-- The laws that the proofs of this crate cite, and that a caller needs.
pub mod MovedUp
pub mod Sums
pub mod OneWord
pub mod TwoWords
pub mod Widths
pub mod Fits
pub mod InWords
pub mod Groups
pub mod LSequence
pub mod LStrides
pub mod LBack
pub mod FeedbackWords
pub mod Gained
pub mod GroupForward
pub mod Solving
pub mod NewBits
pub mod GroupBack
