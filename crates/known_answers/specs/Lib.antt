-- What bytes in hexadecimal, a state's fields, a refusal and a digest are as text.
pub mod Digest
pub mod Fields
pub mod Hex
pub mod Refused
