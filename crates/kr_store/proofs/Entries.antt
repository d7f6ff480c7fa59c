-- Paths with their revisions, as a map has them: what is there after a change, and at a place.
use Rattle.std.proofs.Common.{◌≡◌, ℕ, ◌<◌, ◌+◌, map, Bool, true, false, cond, List, [], ◌∷◌, ◌++◌, length, get_or, take, drop, Option, None, Some, refl, sym, ◌∙◌, ap, subst, inl, inr, ◌⊎◌}
use Rattle.std.specs.Str.{bytes_eq}
use Rattle.std.specs.List.{AllByRecursion}
use Rattle.std.specs.List.Sorted.{IsStrictlySortedBy}
use Rattle.std.specs.Map.{lookup, remove_entry, update}
use Rattle.std.specs.BTreeMap.{insert_entry, is_at}
use Rattle.std.specs.Ordering.{match_ordering, is_eq}
use Rattle.std.specs.declared.cmp.Ordering.{Ordering}
use Rattle.std.specs.declared.cmp.Ordering.TheVariants.{Less, Equal, Greater}
use Rattle.std.proofs.lemmas.List.{take-append-drop, drop_more}
use Rattle.std.proofs.lemmas.Map.Text.{is_eq-slice_cmp}
use Rattle.std.proofs.lemmas.Slice.Eq.{bytes_eq-Decides}
use Rattle.kr_paths.specs.Paths.{path_cmp, AreSorted, first}
use Rattle.kr_paths.proofs.Orders.{itself, same, all_below, found_here}
use Rattle.kr_store.proofs.Indexes.{bool_cases}

abbrev Entries : Type 0
Entries = List (List ℕ × ℕ)

abbrev at : List ℕ → Entries → Option ℕ
at q es = lookup (is_at (path_cmp q)) es

not_equal : (a b : List ℕ) → (a ≡ b → ⊥) → is_eq (path_cmp a b) ≡ false
not_equal a b apart = by (is_eq (path_cmp a b)) refl
  where
    by : (v : Bool) → is_eq (path_cmp a b) ≡ v → v ≡ false
    by false e = refl
    by true e = absurd (apart ((bytes_eq-Decides a b).0 (sym (is_eq-slice_cmp a b) ∙ e)))

-- ---- a number is put

put_own : (es : Entries) (path : List ℕ) (n : ℕ) → at path (insert_entry path_cmp es path n) ≡ Some n
put_own [] path n = ap (λ r. cond (is_eq r) (Some n) None) (itself path)
put_own (e ∷ es) path n = by (path_cmp path e.0) refl (put_own es path n)
  where
    by : (r : Ordering) → path_cmp path e.0 ≡ r → at path (insert_entry path_cmp es path n) ≡ Some n
        → at path (match_ordering r ((path, n) ∷ e ∷ es) ((e.0, n) ∷ es) (e ∷ insert_entry path_cmp es path n)) ≡ Some n
    by Less h rest = ap (λ r. cond (is_eq r) (Some n) (at path (e ∷ es))) (itself path)
    by Equal h rest = ap (λ r. cond (is_eq r) (Some n) (at path es)) h
    by Greater h rest = ap (λ r. cond (is_eq r) (Some e.1) (at path (insert_entry path_cmp es path n))) h ∙ rest

put_other : (es : Entries) (path q : List ℕ) (n : ℕ) → (q ≡ path → ⊥) → at q (insert_entry path_cmp es path n) ≡ at q es
put_other [] path q n apart = ap (λ v. cond v (Some n) None) (not_equal q path apart)
put_other (e ∷ es) path q n apart = by (path_cmp path e.0) refl (put_other es path q n apart)
  where
    by : (r : Ordering) → path_cmp path e.0 ≡ r → at q (insert_entry path_cmp es path n) ≡ at q es
        → at q (match_ordering r ((path, n) ∷ e ∷ es) ((e.0, n) ∷ es) (e ∷ insert_entry path_cmp es path n)) ≡ at q (e ∷ es)
    by Less h rest = ap (λ v. cond v (Some n) (at q (e ∷ es))) (not_equal q path apart)
    by Equal h rest =
        let other : is_eq (path_cmp q e.0) ≡ false = not_equal q e.0 (λ k. apart (k ∙ sym (same path e.0 h))) in
        ap (λ v. cond v (Some n) (at q es)) other ∙ sym (ap (λ v. cond v (Some e.1) (at q es)) other)
    by Greater h rest = ap (λ o. cond (is_eq (path_cmp q e.0)) (Some e.1) o) rest

pub put_at : (old new : Entries) (path : List ℕ) (n : ℕ) → new ≡ insert_entry path_cmp old path n → (q : List ℕ) → at q new ≡ update bytes_eq (λ q. at q old) path (Some n) q
put_at old new path n is q = ap (at q) is ∙ by (bool_cases (bytes_eq path q))
  where
    by : (bytes_eq path q ≡ true) ⊎ (bytes_eq path q ≡ false) → at q (insert_entry path_cmp old path n) ≡ cond (bytes_eq path q) (Some n) (at q old)
    by (inl t) = subst (λ p. at p (insert_entry path_cmp old path n) ≡ Some n) ((bytes_eq-Decides path q).0 t) (put_own old path n) ∙ sym (ap (λ v. cond v (Some n) (at q old)) t)
    by (inr f) = put_other old path q n (λ k. (let clash : true ≡ false = sym ((bytes_eq-Decides path q).1 (sym k)) ∙ f in cc)) ∙ sym (ap (λ v. cond v (Some n) (at q old)) f)

-- ---- a path is taken away

absent : (path : List ℕ) (es : Entries) → AllByRecursion (λ y. path_cmp path y ≡ Less) (map (λ e. e.0) es) → at path es ≡ None
absent path [] all = refl
absent path (e ∷ es) all = ap (λ r. cond (is_eq r) (Some e.1) (at path es)) all.0 ∙ absent path es all.1

gone_own : (es : Entries) (path : List ℕ) → AreSorted es → at path (remove_entry (is_at (path_cmp path)) es) ≡ None
unfolding IsStrictlySortedBy
gone_own [] path s = refl
gone_own (e ∷ es) path s = by (path_cmp path e.0) refl (gone_own es path s.1)
  where
    by : (r : Ordering) → path_cmp path e.0 ≡ r → at path (remove_entry (is_at (path_cmp path)) es) ≡ None → at path (cond (is_eq r) es (e ∷ remove_entry (is_at (path_cmp path)) es)) ≡ None
    by Less h rest = ap (λ r. cond (is_eq r) (Some e.1) (at path (remove_entry (is_at (path_cmp path)) es))) h ∙ rest
    by Equal h rest = absent path es (subst (λ p. AllByRecursion (λ y. path_cmp p y ≡ Less) (map (λ e. e.0) es)) (sym (same path e.0 h)) s.0)
    by Greater h rest = ap (λ r. cond (is_eq r) (Some e.1) (at path (remove_entry (is_at (path_cmp path)) es))) h ∙ rest

gone_other : (es : Entries) (path q : List ℕ) → (q ≡ path → ⊥) → at q (remove_entry (is_at (path_cmp path)) es) ≡ at q es
gone_other [] path q apart = refl
gone_other (e ∷ es) path q apart = by (path_cmp path e.0) refl (gone_other es path q apart)
  where
    by : (r : Ordering) → path_cmp path e.0 ≡ r → at q (remove_entry (is_at (path_cmp path)) es) ≡ at q es → at q (cond (is_eq r) es (e ∷ remove_entry (is_at (path_cmp path)) es)) ≡ at q (e ∷ es)
    by Less h rest = ap (λ o. cond (is_eq (path_cmp q e.0)) (Some e.1) o) rest
    by Equal h rest = sym (ap (λ v. cond v (Some e.1) (at q es)) (not_equal q e.0 (λ k. apart (k ∙ sym (same path e.0 h)))))
    by Greater h rest = ap (λ o. cond (is_eq (path_cmp q e.0)) (Some e.1) o) rest

pub gone_at : (old new : Entries) (path : List ℕ) → AreSorted old → new ≡ remove_entry (is_at (path_cmp path)) old → (q : List ℕ) → at q new ≡ update bytes_eq (λ q. at q old) path None q
gone_at old new path s is q = ap (at q) is ∙ by (bool_cases (bytes_eq path q))
  where
    by : (bytes_eq path q ≡ true) ⊎ (bytes_eq path q ≡ false) → at q (remove_entry (is_at (path_cmp path)) old) ≡ cond (bytes_eq path q) None (at q old)
    by (inl t) = subst (λ p. at p (remove_entry (is_at (path_cmp path)) old) ≡ None) ((bytes_eq-Decides path q).0 t) (gone_own old path s) ∙ sym (ap (λ v. cond v None (at q old)) t)
    by (inr f) = gone_other old path q (λ k. (let clash : true ≡ false = sym ((bytes_eq-Decides path q).1 (sym k)) ∙ f in cc)) ∙ sym (ap (λ v. cond v None (at q old)) f)

-- ---- at a place

pub found_at : (es : Entries) (k : ℕ) (d : List ℕ × ℕ) → AreSorted es → k < length es → at (get_or es k d).0 es ≡ Some (get_or es k d).1
found_at es k d s h =
    let e : List ℕ × ℕ = get_or es k d in
    let all : es ≡ take k es ++ e ∷ drop (k + 1) es = sym (take-append-drop k es) ∙ ap (λ l. take k es ++ l) (drop_more es k d h) in
    ap (at e.0) all ∙ found_here e.0 (take k es) (drop (k + 1) es) e.1
    (all_below e.0 (take k es) e (drop (k + 1) es) (subst AreSorted all s) (λ l. (let clash : Equal ≡ Less = sym (itself e.0) ∙ l in cc)))

-- ---- the first of some

abbrev pub tail_of : Entries → Entries
tail_of [] = []
tail_of (e ∷ es) = es

pub first_is : (es : Entries) (e : List ℕ × ℕ) → Some e ≡ first es → es ≡ e ∷ tail_of es
first_is [] e h = cc
first_is (x ∷ xs) e h = ap (λ o. head_or o ∷ xs) (sym h)
  where
    head_or : Option (List ℕ × ℕ) → List ℕ × ℕ
    head_or None = x
    head_or (Some y) = y

pub first_none : (es : Entries) → None ≡ first es → es ≡ []
first_none [] h = refl
first_none (x ∷ xs) h = cc
