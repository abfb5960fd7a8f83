-- Forms that only the contracts of private functions cite.
pub mod Cells
pub mod Core
pub mod Taps
pub mod Serial
pub mod Several
