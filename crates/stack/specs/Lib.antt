pub mod Tops
pub mod Pairs
pub mod Laws
