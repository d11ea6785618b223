mod Calling
mod Serving
mod Sizing
mod Wording
