mod Calling
mod Serving
mod Sizing
