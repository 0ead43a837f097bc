pub mod Each
pub mod Properties
pub mod Groups
pub mod Places
pub mod Lists
pub mod Partition
pub mod Placement
pub mod Stages
