pub mod Ends
pub mod Bounds
pub mod Printed
pub mod Solid
pub mod Cutting
pub mod KindWords
