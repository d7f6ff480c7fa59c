-- A pool of pages of 60 words each, as contracts see it.
use Rattle.std.specs.Prelude.{◌≡◌, ℕ, ◌<◌, List, [], ◌∷◌, ◌++◌, Bool, false, true, All, length, nat_eq, replicate, slice_index_or, slice_set}
use Rattle.std.specs.List.{IsDistinct, list_any}

-- the pages in the order of their numbers, from 0 on, and the numbers of those that are free
pub record Pool : Type 0 where
  pub pages : List (List ℕ)
  pub free : List ℕ

-- the words of a page
abbrev pub page_words : Pool → ℕ → List ℕ
page_words pool number = slice_index_or pool.pages number []

-- whether a page is free
abbrev pub is_free : Pool → ℕ → Bool
is_free pool number = list_any (nat_eq number) pool.free

-- the words of a page that holds nothing
abbrev pub zero_page : List ℕ
zero_page = replicate 60 0

-- the free numbers are distinct, each is that of a page, and that page is zero
pub record IsPool (pool : Pool) : Type 0 where
  pub distinct : IsDistinct nat_eq pool.free
  pub below : All (λ number. number < length pool.pages) pool.free
  pub zero : All (λ number. page_words pool number ≡ zero_page) pool.free

-- the page was free, and is no more; nothing else changes
pub record Takes (old new : Pool) (number : ℕ) : Type 0 where
  pub pages : new.pages ≡ old.pages
  pub free : old.free ≡ new.free ++ number ∷ []
  pub below : number < length old.pages
  pub zero : page_words old number ≡ zero_page
  pub was : is_free old number ≡ true
  pub out : is_free new number ≡ false
  pub others : (k : ℕ) → is_free old k ≡ false → is_free new k ≡ false

-- the pool with other words in a page
abbrev pub with_words : Pool → ℕ → List ℕ → Pool
with_words pool number words = record pool { pages = slice_set pool.pages number words }

-- the pool with a page zeroed and free
abbrev pub with_free : Pool → ℕ → Pool
with_free pool number =
    record { pages = slice_set pool.pages number zero_page; free = pool.free ++ number ∷ [] }
