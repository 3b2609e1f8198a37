pub mod Values
pub mod Codes
pub mod Runs
pub mod Answering
pub mod Decoding
pub mod Frozen
pub mod Counts
pub mod Stable
pub mod Nameless
mod Examples
pub mod Unchanged
