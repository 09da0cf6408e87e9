-- Laws of the views that models cite.
pub mod TableViews
