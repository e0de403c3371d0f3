mod Rows
mod Gap
mod Passes
mod Rounds
