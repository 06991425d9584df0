pub mod TextReading
pub mod Refusing
pub mod Laws
pub mod Digits
