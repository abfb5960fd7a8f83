-- The laws of journals and texts.
pub mod GrowingText
pub mod Decimal
pub mod Finding
pub mod Reading
pub mod ReadInTurn
pub mod RecordParts
pub mod RecordByRecord
pub mod Accepted
pub mod VerifyLoop
pub mod KeyAndJournal
pub mod FirstBytes
pub mod Fits
pub mod SealedInTurn
pub mod BlankKey
pub mod ClockSet
pub mod Earlier
pub mod Samples
