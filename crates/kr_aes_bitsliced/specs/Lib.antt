-- The definitions that the contracts cite, and under `inner` those of inner contracts alone.
pub mod KeyPlanes
pub mod inner
