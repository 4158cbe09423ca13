pub mod Calling
pub mod Classes
pub mod Contexts
pub mod Handing
pub mod Steps
