-- The pages of a bench: one for each key of the configuration that it adopted, with that key's
-- expansion (FIPS 197).
use Rattle.std.specs.Prelude.{◌≡◌, ℕ, ◌<◌, not, false, List, [], ◌∷◌, All, length, map, nat_eq, replicate, Option, Some, None}
use Rattle.std.specs.List.{IsDistinct, flat_map, list_any, range_with_len}
use Rattle.kr_aes.specs.KeyExpansion.{padded_schedule}
use Rattle.kr_config.specs.declared.who.Who.{Who}
use Rattle.kr_config.specs.declared.who.Who.TheVariants.{Identity, Aescbc, Aesgcm, Kms}
use Rattle.kr_config.specs.Kept.{ConfigEntry}
use Rattle.kr_pages.specs.Pool.{Pool, IsPool, is_free, page_words, zero_page}
use Rattle.kr_provider.specs.Publication.{Publication}

-- the secrets of the keys in some entries, in the order of the file
abbrev pub key_secret : Who → List (List ℕ)
key_secret Identity = []
key_secret (Aescbc name secret) = secret ∷ []
key_secret (Aesgcm name secret) = secret ∷ []
key_secret (Kms name) = []

abbrev pub secrets_among : List Who → List (List ℕ)
secrets_among providers = flat_map key_secret providers

abbrev pub secrets_in : List ConfigEntry → List (List ℕ)
secrets_in rows = flat_map (λ row. secrets_among row.providers) rows

-- those of the configuration that was adopted
abbrev pub adopted_secrets : Option Publication → List (List ℕ)
adopted_secrets None = []
adopted_secrets (Some p) = secrets_in p.rows

-- a pool, and the numbers of the pages taken of it
pub record KeyPages : Type 0 where
  pub pool : Pool
  pub out : List ℕ

-- how many pages there are
abbrev pub size_of : KeyPages → ℕ
size_of pages = length pages.pool.pages

-- what the taken pages hold
abbrev pub words_out : KeyPages → List (List ℕ)
words_out pages = map (λ number. page_words pages.pool number) pages.out

-- so many pages, none of which is taken
abbrev pub free_pages : ℕ → KeyPages
free_pages size = record {
  pool = record {
    pages = replicate size zero_page;
    free =
        range_with_len 0 size;
  };
  out = [];
}

-- the pages out are one for each secret, in their order; each holds the secret's schedule and zeros
-- behind it; every other page is free and zero
pub record HoldKeys (secrets : List (List ℕ)) (pages : KeyPages) : Type 0 where
  pub pool : IsPool pages.pool
  pub distinct : IsDistinct nat_eq pages.out
  pub below : All (λ number. number < size_of pages) pages.out
  pub held : words_out pages ≡ map padded_schedule secrets
  pub free : (number : ℕ) → number < size_of pages
      → is_free pages.pool number ≡ not (list_any (nat_eq number) pages.out)
  pub others : (number : ℕ) → number < size_of pages → list_any (nat_eq number) pages.out ≡ false
      → page_words pages.pool number ≡ zero_page
