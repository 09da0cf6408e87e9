pub mod Answers
pub mod Kept
pub mod Keys
pub mod Limits
pub mod LostRulesLimits
pub mod Refusals
pub mod Stages
pub mod States
