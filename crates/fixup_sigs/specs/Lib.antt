pub mod Fixup
pub mod Reading
pub mod Shortest
pub mod Laws
