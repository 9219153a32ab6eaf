pub mod Laws
pub mod Listed
pub mod Bits
pub mod Told
pub mod Mapped
pub mod RightImages
pub mod Instances
