-- Laws of the numbers of enumerations.
pub mod Numbers
