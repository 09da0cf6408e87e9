pub mod AnswerLengths
pub mod RefusedBehind
pub mod ServiceFaults
