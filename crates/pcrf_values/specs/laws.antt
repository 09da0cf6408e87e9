-- Laws of the orders of values that the specs of other crates cite.
pub mod Addresses
pub mod Exact
pub mod Greater
pub mod Numbers
pub mod Tags
pub mod Values
