pub mod Gone
pub mod Alike
pub mod Formed
