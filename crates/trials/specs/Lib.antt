pub mod Full
pub mod Grounded
