-- The definitions that the contracts cite, and under `inner` those of inner contracts alone.
pub mod KeyWrap
pub mod Keys
pub mod KeyLink
pub mod Answer
pub mod Serving
pub mod inner
