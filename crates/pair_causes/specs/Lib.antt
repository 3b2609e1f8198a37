pub mod Causes
pub mod Links
pub mod Sentences
pub mod Judged
pub mod Reading
pub mod Laws
pub mod Facts
