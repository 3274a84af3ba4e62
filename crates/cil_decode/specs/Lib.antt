pub mod Opcodes
pub mod Operations
pub mod Instructions
pub mod Bodies
pub mod Encoding
