pub mod Flows
pub mod Places
pub mod Rules
pub mod Subjects
pub mod Verified
