pub mod Definitions
pub mod Lists
pub mod Meaning
pub mod Parameters
pub mod Words
