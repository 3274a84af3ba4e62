pub mod Numbers
pub mod Machine
pub mod Access
pub mod Effects
pub mod Step
pub mod Walk
pub mod Whole
pub mod Flat
