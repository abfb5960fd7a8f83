-- What the operations of this crate answer, and the statements about two lists of calls, about more blocks and about marks read back.
pub mod Taking
pub mod Soundness
pub mod Bytes
pub mod Marks
pub mod Outcomes
pub mod Calls
pub mod Lists
pub mod TwoLists
pub mod MoreBlocks
pub mod ReadBack
pub mod leaf
