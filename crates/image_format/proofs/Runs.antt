-- How a result that code passes on by `?` follows the reading. Assumes nothing.
pub use Rattle.records.proofs.Runs.{stop, go, stops, goes_on, stops_over, goes_over, keep, keep_all}
