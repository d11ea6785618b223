pub mod Acts
pub mod Pulling
pub mod Stopping
pub mod Unsteady
