pub mod Marks
pub mod Refusals
pub mod Shapes
pub mod Variants
pub mod Replies
pub mod Examples
