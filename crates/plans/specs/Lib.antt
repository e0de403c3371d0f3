pub mod Steps
pub mod Scripts
