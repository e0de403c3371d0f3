pub mod Marking
pub mod Adding
pub mod Joining
