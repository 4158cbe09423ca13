pub mod Catalogs
pub mod Packs
