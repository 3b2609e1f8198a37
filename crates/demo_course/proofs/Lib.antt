pub mod Rooting
pub mod Reaching
pub mod Listing
pub mod Squares
