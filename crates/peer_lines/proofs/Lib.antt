pub mod Bytes
pub mod Notices
pub mod Places
pub mod RoundTrip
pub mod Sealing
pub mod Unsealing
