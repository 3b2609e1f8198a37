pub mod Axes
pub mod Sight
pub mod Covering
pub mod Seeing
pub mod Tables
pub mod Marking
