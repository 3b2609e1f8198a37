pub mod Found
pub mod Meant
pub mod Room
pub mod Log
pub mod Laws
