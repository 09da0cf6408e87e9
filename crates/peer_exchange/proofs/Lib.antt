pub mod Added
pub mod Apart
pub mod FirstFour
pub mod Frames
pub mod Lengths
pub mod LettersAgain
pub mod LettersHad
pub mod Placed
