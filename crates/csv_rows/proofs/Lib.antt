pub mod Machine
pub mod Next
pub mod PlainLines
