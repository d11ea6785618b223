pub mod Image
pub mod Laws
pub mod Writing
