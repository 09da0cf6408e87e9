pub mod FlowLaws
pub mod RemovedLaws
pub mod TypedLaws
