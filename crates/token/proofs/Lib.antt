pub mod Filled
pub mod Packed
pub mod Viewed
