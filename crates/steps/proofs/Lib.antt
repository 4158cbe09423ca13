pub mod Called
pub mod Digits
pub mod Hiding
pub mod Leading
pub mod Preparing
pub mod Pushed
pub mod Stepping
