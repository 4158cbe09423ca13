pub mod Limited
pub mod Packing
pub mod Tables
pub mod Tokens
pub mod Views
