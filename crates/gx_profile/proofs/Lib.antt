pub mod Exchanging
pub mod MessageLengths
pub mod RuleLengths
pub mod Spelling
pub mod Splitting
