pub mod Computed
pub mod Counts
pub mod Parting
pub mod Settled
pub mod Turns
pub mod Unbounded
pub mod Unchanged
