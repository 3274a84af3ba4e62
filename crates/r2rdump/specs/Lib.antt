pub mod Text
pub mod Types
pub mod OnePass
pub mod Dump
