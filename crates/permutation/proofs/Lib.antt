-- The laws that the proofs of this crate cite.
pub mod Samples
pub mod Instances
pub mod SingleBits
pub mod Tabulate
pub mod RegisterL
pub mod MovedCells
pub mod SerialSteps
pub mod Accepted
pub mod Overwriting
pub mod CellWords
pub mod Widths
pub mod NamedClocks
