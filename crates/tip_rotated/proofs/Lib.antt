pub mod Rotating
