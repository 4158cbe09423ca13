pub mod Calls
pub mod Fronts
pub mod Runs
