pub mod Truth
pub mod Promise
