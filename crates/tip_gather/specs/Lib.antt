pub mod Gathering
pub mod Looking
