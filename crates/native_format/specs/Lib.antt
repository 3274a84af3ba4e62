pub mod Uint
pub mod Nibbles
pub mod NibbleSteps
pub mod Sparse
pub mod SparseBytes
pub mod SparseSteps
pub mod SparseLengths
pub mod Laws
