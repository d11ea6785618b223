pub mod Faring
pub mod Series
pub mod Strips
