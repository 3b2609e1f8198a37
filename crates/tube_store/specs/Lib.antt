pub mod Touched
pub mod State
pub mod Kept
pub mod Cuts
pub mod Places
pub mod Resets
