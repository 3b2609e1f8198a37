pub mod Firings
pub mod Texts
pub mod Leaving
pub mod Bundled
