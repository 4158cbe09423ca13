pub mod Parts
pub mod States
