-- Which record of a session is read of what is held.
pub use Rattle.bind_index.proofs.Alike.{HasRecord, kept_record, record_decides}
