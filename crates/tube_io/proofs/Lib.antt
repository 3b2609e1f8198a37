pub mod Moved
pub mod Rises
pub mod Sent
