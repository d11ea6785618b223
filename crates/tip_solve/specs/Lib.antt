pub mod Finding
pub mod Seeking
pub mod Solving
pub mod Summing
pub mod Writing
