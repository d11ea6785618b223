pub mod Recovering
pub mod Seeking
pub mod Stopping
pub mod Written
