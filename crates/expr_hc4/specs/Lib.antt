pub mod Places
pub mod Projections
pub mod Programs
pub mod Outcomes
pub mod ExprLaws
