pub mod Names
pub mod Piles
