pub mod Finding
pub mod Leading
pub mod Rows
pub mod Few
pub mod Onward
