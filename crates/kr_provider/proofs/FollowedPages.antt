-- What a bench's pages hold between any two of its calls.
use Rattle.std.proofs.Common.{◌≡◌, ℕ, ◌<◌, ◌≤◌, List, [], ◌∷◌, Bool, true, false, Option, Some, None, refl, sym, ap, subst, ◌∙◌, inl, inr, arith}
use Rattle.std.specs.Prelude.{if◌then◌else◌, nat_lt}
use Rattle.std.proofs.lemmas.Bool.{false≢true}
use Rattle.std.proofs.lemmas.Bool.Decides.{nat_tests}
use Rattle.std.proofs.lemmas.List.{length-replicate}
use Rattle.kr_base.specs.Walks.{Walk}
use Rattle.kr_config.specs.Kept.{count_entry_keys}
use Rattle.kr_pages.specs.Pool.{zero_page}
use Rattle.kr_pages.proofs.Pools.{IsPool-new}
use Rattle.kr_provider.specs.BenchKeys.{AdoptCall, LetGoCall, AdoptsIt, BenchCall, Does, HoldsExactly, PagesFollowCalls, adoption_of, adopted_after_call, after_calls}
use Rattle.kr_provider.specs.BenchState.{Adoption, BenchState}
use Rattle.kr_provider.specs.KeyPages.{HoldKeys, KeyPages, free_pages, size_of}
use Rattle.kr_provider.specs.Publication.{Publication}
use Rattle.kr_provider.proofs.Stacks.{IsStack-free_pages, nothing_held}

is_less : (n m : ℕ) → n < m → nat_lt n m ≡ true
is_less n m h = grind (arith, nat_tests)

not_less : (n m : ℕ) → m ≤ n → nat_lt n m ≡ false
not_less n m h = grind (arith, nat_tests)

-- nothing of it changed
pub holds_still : (size : ℕ) (held : Option Publication) (old new : Adoption) → new ≡ old
    → HoldsExactly size held old → HoldsExactly size held new
holds_still size held old new e h = subst (HoldsExactly size held) (sym e) h

after_test : (size : ℕ) (held other : Option Publication) (new : Adoption) (b : Bool)
    → (b ≡ true → HoldsExactly size held new) → (b ≡ false → HoldsExactly size other new)
    → HoldsExactly size (if b then held else other) new
after_test size held other new true f g = f refl
after_test size held other new false f g = g refl

module _ {L D : Type 0} where
  adopts : (size : ℕ) (p : Publication) (old new : BenchState L D) → AdoptsIt p old new
      → size_of old.pages ≡ size → HoldsExactly size (Some p) (adoption_of new)
  adopts size p old new a e = record {
    published = ap (λ (b : BenchState L D). b.published) a.kept;
    keys = a.keys;
    as_many = a.size ∙ e;
  }

  after : (size : ℕ) (held : Option Publication) (old : BenchState L D) (call : BenchCall)
      (new : BenchState L D) → HoldsExactly size held (adoption_of old) → Does old call new
      → HoldsExactly size (adopted_after_call size held call) (adoption_of new)
  after size held old (AdoptCall p) new h (inl refused) =
      let less = is_less size (count_entry_keys p.rows)
      (let e = h.as_many in let r = refused.0 in omega (arith, e, r)) in
      after_test size held (Some p) (adoption_of new) (nat_lt size (count_entry_keys p.rows))
      (λ e. holds_still size held (adoption_of old) (adoption_of new)
      (ap (λ (b : BenchState L D). adoption_of b) refused.1) h)
      (λ e. absurd (false≢true (sym e ∙ less)))
  after size held old (AdoptCall p) new h (inr a) =
      let not = not_less size (count_entry_keys p.rows)
      (let e = h.as_many in let r = a.room in omega (arith, e, r)) in
      after_test size held (Some p) (adoption_of new) (nat_lt size (count_entry_keys p.rows))
      (λ e. absurd (false≢true (sym not ∙ e))) (λ e. adopts size p old new a h.as_many)
  after size held old LetGoCall new h (kept, cleared) = record {
    published = cleared.none;
    keys = cleared.keys;
    as_many = cleared.size ∙ h.as_many;
  }
  after size held old other new h d = holds_still size held (adoption_of old) (adoption_of new) (ap (λ (b : BenchState L D). adoption_of b) d) h

  goes_on : (size : ℕ) (held : Option Publication) (old : BenchState L D)
      (calls : List BenchCall) (now : BenchState L D)
      → HoldsExactly size held (adoption_of old) → Walk Does old calls now
      → HoldsExactly size (after_calls size held calls) (adoption_of now)
  goes_on size held old [] now h w = holds_still size held (adoption_of old) (adoption_of now)
      (ap (λ (b : BenchState L D). adoption_of b) w) h
  goes_on size held old (call ∷ calls) now h w =
      goes_on size (adopted_after_call size held call) w.0 calls now (after size held old call w.0 h w.1) w.2

-- pages of which none was taken
free_hold : (size : ℕ) (pages : KeyPages) → pages ≡ free_pages size → HoldKeys [] pages
free_hold size pages e = subst (λ (p : KeyPages). HoldKeys [] p) (sym e)
    (nothing_held (free_pages size)
    (IsStack-free_pages (free_pages size) (IsPool-new size) size refl refl refl) refl)

-- a bench that adopted nothing yet
pub holds_none : (size : ℕ) (now : Adoption) → now.published ≡ None → now.pages ≡ free_pages size
    → HoldsExactly size None now
holds_none size now none pages = record {
  published = none;
  keys = free_hold size now.pages pages;
  as_many = ap size_of pages ∙ length-replicate size zero_page;
}

pub follows : {L D : Type 0} → PagesFollowCalls L D
follows size old calls now none pages walk =
    goes_on size None old calls now (holds_none size (adoption_of old) none pages) walk
