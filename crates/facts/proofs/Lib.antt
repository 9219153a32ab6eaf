pub mod Laws
pub mod Bits
pub mod Premises
pub mod Block
pub mod Upto
pub mod History
pub mod ListCounts
pub mod NoRepeats
