pub mod Tall
pub mod Wide
pub mod Grounded
pub mod Stacked
