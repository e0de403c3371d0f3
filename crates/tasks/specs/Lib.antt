pub mod Answers
pub mod Regressed
