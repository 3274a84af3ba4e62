mod Bound
mod Typed
mod Sound
mod Entered
mod Runs
mod Widening
mod Monotone
pub mod Rounds
mod Least
mod Untyped
mod FirstUntyped
mod Examples
