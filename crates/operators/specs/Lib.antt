pub mod Ends
pub mod Pieces
pub mod Placing
pub mod Quoting
pub mod Sets
pub mod Spellings
