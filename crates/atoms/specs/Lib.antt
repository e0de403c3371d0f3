pub mod Digits
pub mod Has
