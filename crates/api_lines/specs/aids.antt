pub mod Actions
pub mod BulkReading
pub mod JsonLines
pub mod Tokens
pub mod MoreFields
pub mod PlainTexts
pub mod Scanning
pub mod Keys
