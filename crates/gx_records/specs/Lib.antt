pub mod GxFacts
pub mod Numbers
pub mod laws
