pub mod NameTexts
pub mod Written
pub mod Records
pub mod Texts
pub mod Named
pub mod Laws
