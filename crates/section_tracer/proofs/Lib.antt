pub mod Firing
pub mod Going
pub mod Tracing
pub mod Bundling
