pub mod Blocks
pub mod Hashes
pub mod Hints
pub mod InForce
pub mod Layout
pub mod Meaning
pub mod Stores
