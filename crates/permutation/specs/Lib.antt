-- What the operations of this crate answer, and the forms of its private functions.
pub mod Lines
pub mod Permute
pub mod Steps
pub mod NamedClocks
pub mod leaf
