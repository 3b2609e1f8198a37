pub mod Composing
pub mod Narrowing
pub mod Firing
pub mod Fixing
pub mod Checked
pub mod OneByOne
pub mod FiringLaws
