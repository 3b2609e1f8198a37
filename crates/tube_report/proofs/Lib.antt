pub mod Written
pub mod VarLines
pub mod Summaries
pub mod Boxes
pub mod Listing
