pub mod Counts
pub mod Laws
pub mod Slices
pub mod Traces
pub mod Words
