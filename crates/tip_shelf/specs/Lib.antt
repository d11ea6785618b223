pub mod Calls
pub mod Meaning
pub mod Performing
pub mod Service
