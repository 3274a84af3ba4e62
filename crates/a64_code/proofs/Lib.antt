pub mod Positions
pub mod Bits
pub mod Held
pub mod Written
pub mod Searched
pub mod Inverse
pub mod Outside
pub mod Examples
