pub mod Made
pub mod Names
pub mod Cuts
pub mod Room
pub mod Valid
