pub mod Sets
pub mod Tables
pub mod Tagged
