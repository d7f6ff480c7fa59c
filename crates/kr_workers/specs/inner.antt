-- Definitions that serve inner contracts alone.
pub mod Ways
pub mod Serving
pub mod WholeRuns
pub mod Going
pub mod SeatedWorkers
