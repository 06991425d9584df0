pub mod Parts
pub mod Kinds
pub mod Laws
