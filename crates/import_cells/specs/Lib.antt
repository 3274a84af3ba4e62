pub mod Plan
pub mod Core
pub mod Seats
pub mod Seated
pub mod Shared
pub mod Laws
