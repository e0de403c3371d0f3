mod Carrying
mod Drops
mod Forms
mod Trimming
