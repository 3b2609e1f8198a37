pub mod Gaps
pub mod Judgements
pub mod Blocks
pub mod Nearness
pub mod OnePair
pub mod Tubes
pub mod Filling
mod Examples
