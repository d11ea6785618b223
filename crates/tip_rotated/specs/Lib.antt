pub mod Laws
pub mod Turning
