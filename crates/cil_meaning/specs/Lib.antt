pub mod Arithmetic
pub mod State
pub mod Typing
pub mod Step
pub mod Run
pub mod Soundness
pub mod Laws
