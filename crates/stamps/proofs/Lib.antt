pub mod Laws
pub mod Bits
pub mod LowestBit
pub mod Parts
pub mod Places
pub mod Stamping
