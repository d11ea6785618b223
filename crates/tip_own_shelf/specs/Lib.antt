pub mod Guarding
pub mod Laws
