pub mod Arguing
pub mod Gathering
pub mod Held
pub mod Lists
pub mod Parting
pub mod Runs
pub mod Turning
pub mod Waiting
