pub mod Beside
pub mod Bits
pub mod Held
pub mod Sets
