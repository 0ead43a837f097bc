pub mod Numbers
pub mod Cutting
pub mod Results
pub mod Runs
pub mod Parts
