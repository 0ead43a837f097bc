pub mod Coming
pub mod Turning
pub mod Opening
