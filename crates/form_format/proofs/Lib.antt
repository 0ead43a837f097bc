pub mod Filling
pub mod Sound
pub mod Whole
pub mod Going
pub mod Steps
pub mod Told
