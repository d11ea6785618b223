pub mod Cyclic
pub mod Decided
pub mod Known
pub mod Unfolded
pub mod Unknown
