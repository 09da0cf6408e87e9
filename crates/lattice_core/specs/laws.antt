-- The laws of the joins, which the specs of records and states cite.
pub mod Maps
pub mod Registers
pub mod Tombs
