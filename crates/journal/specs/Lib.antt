-- The journal, and what the operations of this crate answer.
pub mod Journal
pub mod FirstRefusal
pub mod Earlier
pub mod InTurn
pub mod Next
pub mod Report
pub mod leaf
