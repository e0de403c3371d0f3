pub mod Additions
mod Joined
mod Marking
