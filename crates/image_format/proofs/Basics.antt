-- Small facts on results. Assumes nothing.
pub use Rattle.records.proofs.Results.{err_ok, ok_ok, then_ok, passes, holds, chosen, then_is, over_is}
