use Rattle.std.proofs.Common.{◌≡◌, replicate, vec_capacity}
use Rattle.std.specs.List.{range_with_len}
use Rattle.kr_pages.specs.Pool.{zero_page}
use Rattle.kr_pages.proofs.Pages.new.Given as goal

abbrev pub invariant-loop-number : goal.invariant-loop-number
invariant-loop-number l = record {
  space : vec_capacity l.pages ≡ l.n;
  room : vec_capacity l.free ≡ l.n;
  zeros : l.pages.items ≡ replicate l.number zero_page;
  numbers : l.free.items ≡ range_with_len 0 l.number;
}
