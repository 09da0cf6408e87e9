pub mod FieldValues
pub mod FlowLists
pub mod Numbers
pub mod RecordFacts
pub mod RemovedLists
pub mod laws
