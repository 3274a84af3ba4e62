pub mod Field
pub mod Checks
pub mod Spelling
pub mod Compressed
