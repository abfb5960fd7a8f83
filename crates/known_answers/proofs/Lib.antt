-- Text of a byte.
pub mod HexText
