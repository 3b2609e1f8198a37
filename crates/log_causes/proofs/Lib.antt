pub mod Chains
pub mod Said
pub mod Naming
pub mod Judging
pub mod Telling
