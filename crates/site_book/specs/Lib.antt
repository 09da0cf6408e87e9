pub mod Books
pub mod Gains
pub mod Limits
pub mod Samples
pub mod Settling
pub mod Sound
