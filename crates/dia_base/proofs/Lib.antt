pub mod AnswerLengths
pub mod NeighbourAnswerLengths
pub mod NeighbourRequestLengths
pub mod Refusals
pub mod StandardLengths
pub mod StandardSpelling
pub mod Values
