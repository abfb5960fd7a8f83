-- The instances by name, what the operations of this crate give, and the forms of its private functions.
pub mod Instances
pub mod Words
pub mod leaf
