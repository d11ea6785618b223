pub mod Marking
pub mod Numbers
pub mod Servicing
pub mod Storing
pub mod Sweeping
pub mod Sweeps
