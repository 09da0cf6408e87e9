pub mod Calls
pub mod FlowsAlone
pub mod Cached
pub mod Listed
pub mod Listing
pub mod Many
