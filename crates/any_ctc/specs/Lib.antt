pub mod Constraints
pub mod ConstraintLaws
pub mod Contractors
pub mod PartLaws
pub mod Parts
