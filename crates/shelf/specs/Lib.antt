pub mod Files
pub mod Makes
