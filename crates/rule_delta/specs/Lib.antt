pub mod Abandoned
pub mod AbortsByRecord
pub mod ByRecord
pub mod Due
pub mod Pushed
pub mod ToldAll
pub mod Waits
