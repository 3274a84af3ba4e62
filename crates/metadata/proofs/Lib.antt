mod Taken
mod Headers
mod Counts
mod AllChecks
pub mod Text
pub mod FirstOf
pub mod Layouts
pub mod Blobs
pub mod Placed
pub mod ColumnOf
pub mod Joined
pub mod ListsOfRows
