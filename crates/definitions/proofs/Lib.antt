pub mod Blocks
pub mod Finding
pub mod Hinting
pub mod Laying
pub mod Lists
pub mod Macros
pub mod Same
pub mod Stored
