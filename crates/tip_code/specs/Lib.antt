pub mod Buffer
pub mod Encoding
pub mod Geometry
pub mod Places
pub mod Primes
pub mod Joining
pub mod Stops
pub mod Stripe
