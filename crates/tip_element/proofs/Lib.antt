pub mod Bits
pub mod Joins
pub mod Sets
