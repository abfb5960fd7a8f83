-- Forms that only the contracts of private functions and the laws cite.
pub mod Places
