-- Pages are taken from the last on and given back in the other order.
use Rattle.std.specs.Prelude.{◌≡◌, ℕ, ◌+◌, ◌<◌, length, slice_index_or}
use Rattle.std.specs.List.{range_with_len}
use Rattle.kr_pages.specs.Pool.{IsPool}
use Rattle.kr_provider.specs.KeyPages.{KeyPages, size_of}

pub record IsStack (pages : KeyPages) : Type 0 where
  pub pool : IsPool pages.pool
  pub count : length pages.pool.free + length pages.out ≡ size_of pages
  pub free : pages.pool.free ≡ range_with_len 0 (length pages.pool.free)
  pub places : (i d : ℕ) → i < length pages.out
      → slice_index_or pages.out i d + (i + 1) ≡ size_of pages
