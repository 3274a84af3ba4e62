pub mod Ends
pub mod InTurn
pub mod Shaped
pub mod Given
pub mod Entry
