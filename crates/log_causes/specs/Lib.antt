pub mod Uses
pub mod Items
pub mod Sentences
pub mod Laws
