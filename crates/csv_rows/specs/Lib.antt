pub mod Records
pub mod Left
pub mod Lines
pub mod Laws
