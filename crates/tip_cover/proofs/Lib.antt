pub mod Comparing
pub mod Covering
pub mod Tracing
