pub mod Each
pub mod LeavesStand
pub mod Heads
pub mod Reading
pub mod Standing
pub mod Right
pub mod Adding
pub mod Told
