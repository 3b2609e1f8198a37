pub mod Plans
pub mod Hearing
pub mod Told
pub mod Tails
pub mod Reports
pub mod Statuses
pub mod Telling
