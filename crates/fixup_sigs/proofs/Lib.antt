pub mod Apart
pub mod Bounds
pub mod Payloads
pub mod Places
pub mod ReadingLaws
pub mod Signatures
pub mod Writable
pub mod Written
