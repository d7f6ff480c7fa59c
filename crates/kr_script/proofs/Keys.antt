-- The words of a statement, and the replicas that they name.
use Rattle.std.proofs.Common.{◌≡◌, ℕ, zero, suc, ◌+◌, ◌<◌, Bool, true, false, List, [], ◌∷◌}
use Rattle.std.proofs.Common.{length, map, Option, None, Some, refl, ap, ◌∙◌, arith}
use Rattle.std.specs.Prelude.{not, if◌then◌else◌}
use Rattle.std.specs.List.{list_any}
use Rattle.std.specs.Str.{bytes_eq}
use Rattle.std.proofs.lemmas.Bool.{and_parts, not-true}
use Rattle.kr_script.specs.declared.statement.Keyword.{Keyword}
use Rattle.kr_script.specs.declared.statement.Keyword.TheVariants as keyword
use Rattle.kr_script.specs.Rows.{Row}
use Rattle.kr_script.specs.Statements.{replica_name}
use Rattle.kr_script.specs.Rules.{are_distinct}
use Rattle.kr_script.specs.inner.Drafts.{word_of, keyword_of, place_from, replica_number}
use Rattle.kr_script.specs.inner.Drafts.{one_word, two_words, three_words, is_empty}
use Rattle.kr_script.proofs.Lists.{same_text, text_same, none_some, any_at}

-- keywords

chain : (word : List ℕ) (k : Keyword) (rest : Option Keyword) (key : Keyword)
    → (rest ≡ Some key → word ≡ word_of key)
    → (if bytes_eq word (word_of k) then Some k else rest) ≡ Some key → word ≡ word_of key
chain word k rest key more e = by (bytes_eq word (word_of k)) refl e
  where
    by : (b : Bool) → bytes_eq word (word_of k) ≡ b → (if b then Some k else rest) ≡ Some key
        → word ≡ word_of key
    by true t e = let same : k ≡ key = cc in same_text word (word_of k) t ∙ ap word_of same
    by false t e = more e

pub keyword_is : (word : List ℕ) (key : Keyword) → keyword_of word ≡ Some key → word ≡ word_of key
keyword_is word key e =
    chain word keyword.Fleet _ key (λ e.
    chain word keyword.Replica _ key (λ e.
    chain word keyword.Worker _ key (λ e.
    chain word keyword.Put _ key (λ e.
    chain word keyword.Get _ key (λ e.
    chain word keyword.Delete _ key (λ e.
    chain word keyword.Rewrite _ key (λ e.
    chain word keyword.Reload _ key (λ e.
    chain word keyword.Refresh _ key (λ e.
    chain word keyword.Join _ key (λ e.
    chain word keyword.Leave None key (λ e. absurd (none_some key e)) e) e) e) e) e) e) e) e) e) e) e

-- words of a number

pub one_word_is : (row : Row) (a : List ℕ) → one_word row ≡ Some a → row ≡ a ∷ []
one_word_is (b ∷ []) a e = let same : b ≡ a = cc in ap (λ w. w ∷ []) same
one_word_is other a e = absurd (none_some a e)

pub two_words_are : (row : Row) (p : List ℕ × List ℕ) → two_words row ≡ Some p
    → row ≡ p.0 ∷ (p.1 ∷ [])
two_words_are (a ∷ (b ∷ [])) p e =
    let same : (a, b) ≡ p = cc in ap (λ q. q.0 ∷ (q.1 ∷ [])) same
two_words_are other p e = absurd (none_some p e)

pub three_words_are : (row : Row) (p : List ℕ × List ℕ × List ℕ) → three_words row ≡ Some p
    → row ≡ p.0 ∷ (p.1 ∷ (p.2 ∷ []))
three_words_are (a ∷ (b ∷ (c ∷ []))) p e =
    let same : (a, b, c) ≡ p = cc in ap (λ q. q.0 ∷ (q.1 ∷ (q.2 ∷ []))) same
three_words_are other p e = absurd (none_some p e)

pub no_words : (row : Row) → is_empty row ≡ true → row ≡ []
no_words [] e = refl
no_words (a ∷ row) e = cc

-- replicas by their names

abbrev pub Replicas : Type 0
Replicas = List (List ℕ × List ℕ)

placed : (n : ℕ) (rs : Replicas) (name : List ℕ) (k : ℕ) → place_from n rs name ≡ Some k
    → (j : ℕ) × (k ≡ n + j) × (j < length rs) × (replica_name rs j ≡ name)
placed n [] name k e = absurd (none_some k e)
placed n (r ∷ rs) name k e = by (bytes_eq r.0 name) refl e (placed (n + 1) rs name k)
  where
    by : (b : Bool) → bytes_eq r.0 name ≡ b → (if b then Some n else place_from (n + 1) rs name)
        ≡ Some k
        → (place_from (n + 1) rs name ≡ Some k
        → (j : ℕ) × (k ≡ n + 1 + j) × (j < length rs) × (replica_name rs j ≡ name))
        → (j : ℕ) × (k ≡ n + j) × (j < length (r ∷ rs)) × (replica_name (r ∷ rs) j ≡ name)
    by true t e more = let same : n ≡ k = cc in (
      0,
      omega (arith, same),
      omega arith,
      same_text r.0 name t,
    )
    by false t e more = let found = more e in (
      suc found.0,
      omega (arith, found.1),
      omega (arith, found.2),
      found.3,
    )

pub place_is : (rs : Replicas) (name : List ℕ) (k : ℕ) → replica_number rs name ≡ Some k
    → (k < length rs) × (replica_name rs k ≡ name)
place_is rs name k e =
    let found = placed 0 rs name k e in
    let same : k ≡ found.0 = omega (arith, found.1) in
    (omega (arith, same, found.2), ap (replica_name rs) same ∙ found.3)

names_of : Replicas → List (List ℕ)
names_of rs = map (λ replica. replica.0) rs

place_there : (n : ℕ) (rs : Replicas) (k : ℕ) → are_distinct (map (λ replica. replica.0) rs) ≡ true
    → k < length rs → place_from n rs (replica_name rs k) ≡ Some (n + k)
place_there n [] k e h = absurd (omega (arith, h))
place_there n (r ∷ rs) zero e h =
    ap (λ b. if b then Some n else place_from (n + 1) rs r.0) (text_same r.0)
    ∙ ap Some (let same : n ≡ n + 0 = omega arith in same)
place_there n (r ∷ rs) (suc k) e h =
    let parts = and_parts (not (list_any (bytes_eq r.0) (map (λ replica. replica.0) rs)))
    (are_distinct (map (λ replica. replica.0) rs)) e in
    let below : k < length rs = omega (arith, h) in
    let differs = any_at (bytes_eq r.0) (λ (replica : List ℕ × List ℕ). replica.0) rs k ([], [])
    (not-true (list_any (bytes_eq r.0) (map (λ replica. replica.0) rs)) parts.0) below in
    ap (λ b. if b then Some n else place_from (n + 1) rs (replica_name rs k)) differs
    ∙ place_there (n + 1) rs k parts.1 below
    ∙ ap Some (let same : n + 1 + k ≡ n + suc k = omega arith in same)

pub place_at : (rs : Replicas) (k : ℕ) → are_distinct (map (λ replica. replica.0) rs) ≡ true
    → k < length rs → replica_number rs (replica_name rs k) ≡ Some k
place_at rs k e h = place_there 0 rs k e h ∙ ap Some (let same : 0 + k ≡ k = omega arith in same)
