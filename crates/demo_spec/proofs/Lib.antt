pub mod Lists
pub mod Telling
pub mod Opening
pub mod Told
