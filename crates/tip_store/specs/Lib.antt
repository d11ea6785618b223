pub mod Laws
pub mod Layout
pub mod Pasting
pub mod Status
pub mod Store
