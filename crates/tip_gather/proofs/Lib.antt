pub mod Counting
pub mod Picking
mod Reading
mod Stopping
