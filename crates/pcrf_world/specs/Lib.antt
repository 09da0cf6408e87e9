pub mod Addressed
pub mod Happening
pub mod Identities
pub mod Members
pub mod Values
