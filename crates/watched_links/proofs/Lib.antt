pub mod Firsts
pub mod Newest
pub mod Telling
