pub mod Formed
pub mod Groups
pub mod States
pub mod TagForms
