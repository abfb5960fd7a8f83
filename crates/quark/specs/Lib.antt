-- The definition of QUARK, after "QUARK: a lightweight hash" (2012), sections 3.1 to 3.3 and Appendix A, with the corrections and the
-- bit order of document 01. Bytes become bits, bits become registers, registers take steps, and steps make P; P makes the sponge.
pub mod Bytes
pub mod Feedback
pub mod Step
pub mod Inverse
pub mod Together
pub mod Instance
pub mod Sponge
pub mod CloseAlike
pub mod Word
pub mod leaf
