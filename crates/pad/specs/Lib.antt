pub mod Bench
pub mod Grounded
