pub mod Document
pub mod Going
pub mod Numbers
pub mod Limits
pub mod Lent
pub mod Outcome
pub mod Counts
pub mod Shown
