pub mod Exposition
pub mod Head
pub mod Histogram
pub mod Pages
pub mod Response
