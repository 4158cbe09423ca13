pub mod Items
pub mod Joining
pub mod Laws
pub mod Meaning
pub mod Replacing
pub mod Worked
