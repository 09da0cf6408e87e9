pub mod Reading
pub mod Said
pub mod Spelling
pub mod Values
