mod Steps
pub mod Backwards
