pub mod Trimmed
pub mod Numbered
pub mod NoNative
pub mod Parts
pub mod SlotsOfSections
pub mod Lowest
pub mod Listed
pub mod Texts
mod Examples
