-- What a pool is after the words of a page were lent.
use Rattle.std.specs.Prelude.{ℕ, List}
use Rattle.std.specs.Borrow.{Array, Fml, Lends, MutBor, u32}
use Rattle.kr_pages.specs.Pool.{Pool, with_words}
use Rattle.kr_pages.specs.contracts.Pages.{the_row}

-- the pool ends with the words that are last behind the reference
abbrev pub LendsWords : MutBor Pool → ℕ → MutBor (List ℕ) → Fml
LendsWords pool number words = Lends the_row (Array u32 60) pool words (with_words pool.now number)
