pub mod NeededEntries
pub mod Numbers
pub mod Cells
pub mod StepsProve
pub mod Entries
pub mod Promise
pub mod Laws
