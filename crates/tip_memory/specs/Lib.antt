pub mod Laws
pub mod Memory
pub mod Writing
