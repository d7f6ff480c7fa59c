-- That a drive passes by no path that has a live row throughout.
use Rattle.std.proofs.Common.{◌≡◌, ◌⊎◌, inl, inr, ℕ, List, [], ◌∷◌, ◌++◌, map, Option, None, Some, refl, sym, ap, subst, ◌∙◌, arith, Contains}
use Rattle.std.specs.Prelude.{IsSome}
use Rattle.std.specs.Cmp.Lexicographic.{slice_cmp}
use Rattle.std.specs.Ordering.{is_eq, nat_cmp, ordering_reverse}
use Rattle.std.specs.declared.cmp.Ordering.{Ordering}
use Rattle.std.specs.declared.cmp.Ordering.TheVariants.{Less, Equal, Greater}
use Rattle.std.proofs.lemmas.Cmp.{nat_list_cmp_total}
use Rattle.std.proofs.lemmas.List.{append_assoc, map-append}
use Rattle.std.proofs.lemmas.List.Elements.{Contains-append_left, Contains-append_right}
use Rattle.std.proofs.lemmas.Map.Text.{is_eq-slice_cmp}
use Rattle.std.proofs.lemmas.Slice.Eq.{bytes_eq-Decides}
use Rattle.kr_store.specs.Rows.{live}
use Rattle.kr_store.specs.Stores.{IsNext}
use Rattle.kr_store.specs.declared.rows.LogRow.{LogRow}
use Rattle.kr_store.specs.declared.rows.Row.{Row}
use Rattle.kr_rollout.specs.declared.opening.Entry.{Entry}
use Rattle.kr_rollout.specs.declared.opening.Opening.{Opening}
use Rattle.kr_history.specs.Acting.{Caller}
use Rattle.kr_rollout.specs.Histories.{state_of}
use Rattle.kr_history.specs.Parts.{Adds}
use Rattle.kr_rewrite.specs.Drives.{CoversLive, IsLiveThroughout, last_of, path_of}
use Rattle.kr_rewrite.specs.declared.outcome.Step.{Step}
use Rattle.kr_rewrite.proofs.Growing.{Grows, IsAt, LooksAt}
use Rattle.kr_rewrite.proofs.Walking.{last_more}

abbrev path_cmp : List ℕ → List ℕ → Ordering
path_cmp a b = slice_cmp nat_cmp a b

-- a path above that is live throughout has its step already, or is still above
abbrev pub IsCovered : (above : List ℕ) → List Step → (old now : Caller) → Type 0
IsCovered above steps old now = (path : List ℕ) → slice_cmp nat_cmp above path ≡ Less
    → IsLiveThroughout path old now
    → Contains (map (path_of above) steps) path
    ⊎ (slice_cmp nat_cmp (last_of above steps) path ≡ Less)

pub covered_begin : (above : List ℕ) (old : Caller) → IsCovered above [] old old
covered_begin above old path less live = inr less

-- what was live throughout was so up to an earlier view
live_before : (path : List ℕ) (old middle new : Caller) → Grows middle new
    → IsLiveThroughout path old new → IsLiveThroughout path old middle
live_before path old middle new g live before e rest is own =
    live before e (rest ++ g.more)
    (g.seen_is ∙ ap (λ s. s ++ g.more) is ∙ append_assoc (old.seen ++ before) (e ∷ rest) g.more)
    own

-- so it is when the next row is looked for
live_then : (path above : List ℕ) (part : List Entry) (old middle new : Caller)
    (found : Option Row) → Adds old part middle → (l : LooksAt above middle new found)
    → IsLiveThroughout path old new
    → IsSome (live (state_of middle.opening (middle.seen ++ l.before)).rows path)
live_then path above part old middle new found a l lives =
    let opening : middle.opening ≡ old.opening = ap (λ (c : Caller). c.opening) a.new_is in
    let seat : middle.seat ≡ old.seat = ap (λ (c : Caller). c.seat) a.new_is in
    let seen : middle.seen ≡ old.seen ++ a.more = ap (λ (c : Caller). c.seen) a.new_is in
    let front : middle.seen ++ l.before ≡ old.seen ++ (a.more ++ l.before) =
    ap (λ s. s ++ l.before) seen ∙ append_assoc old.seen a.more l.before in
    subst (λ (o : Opening). IsSome (live (state_of o (middle.seen ++ l.before)).rows path))
    (sym opening)
    (subst (λ s. IsSome (live (state_of old.opening s).rows path)) (sym front)
    (lives (a.more ++ l.before) l.entry l.rest
    (l.seen_is ∙ ap (λ s. s ++ l.entry ∷ l.rest) front) (l.own ∙ seat)))

-- ---- the next row is this path's, or one below it

equal_paths : (a b : List ℕ) → path_cmp a b ≡ Equal → a ≡ b
equal_paths a b h = (bytes_eq-Decides a b).0 (sym (is_eq-slice_cmp a b) ∙ ap is_eq h)

passed : (rows : List LogRow) (above path : List ℕ) (row : Row) → IsNext rows above (Some row)
    → path_cmp above path ≡ Less → IsSome (live rows path)
    → (path ≡ row.path) ⊎ (path_cmp row.path path ≡ Less)
passed rows above path row next less live = by (path_cmp path row.path) refl
  where
    by : (r : Ordering) → path_cmp path row.path ≡ r
        → (path ≡ row.path) ⊎ (path_cmp row.path path ≡ Less)
    by Less c = absurd (next.2 path live less c)
    by Equal c = inl (equal_paths path row.path c)
    by Greater c = inr (nat_list_cmp_total.antisymm row.path path ∙ ap ordering_reverse c)

there_last : (xs : List (List ℕ)) (x : List ℕ) → Contains (xs ++ x ∷ []) x
there_last xs x = Contains-append_right xs (x ∷ []) x (0, omega arith, refl)

module _ (above : List ℕ) (steps : List Step) (taken : Step) (part : List Entry)
    (old middle new : Caller) (a : Adds old part middle) (g : Grows middle new)
    (c : IsCovered above steps old middle) where
  pub covered_more : (row : Row) → IsAt row.path taken
      → LooksAt (last_of above steps) middle new (Some row)
      → IsCovered above (steps ++ taken ∷ []) old new
  covered_more row at l path less live =
      by (c path less (live_before path old middle new g live))
    where
      paths : map (path_of above) (steps ++ taken ∷ [])
          ≡ map (path_of above) steps ++ row.path ∷ []
      paths = map-append (path_of above) steps (taken ∷ [])
          ∙ ap (λ p. map (path_of above) steps ++ p ∷ []) (at.path_is above)

      last : last_of above (steps ++ taken ∷ []) ≡ row.path
      last = last_more above steps taken ∙ at.path_is (last_of above steps)

      further : (path ≡ row.path) ⊎ (path_cmp row.path path ≡ Less)
          → Contains (map (path_of above) (steps ++ taken ∷ [])) path
          ⊎ (path_cmp (last_of above (steps ++ taken ∷ [])) path ≡ Less)
      further (inl same) = inl (subst (λ ps. Contains ps path) (sym paths)
          (subst (λ p. Contains (map (path_of above) steps ++ row.path ∷ []) p) (sym same)
          (there_last (map (path_of above) steps) row.path)))
      further (inr beyond) = inr (subst (λ p. path_cmp p path ≡ Less) (sym last) beyond)

      by : Contains (map (path_of above) steps) path
          ⊎ (path_cmp (last_of above steps) path ≡ Less)
          → Contains (map (path_of above) (steps ++ taken ∷ [])) path
          ⊎ (path_cmp (last_of above (steps ++ taken ∷ [])) path ≡ Less)
      by (inl there) = inl (subst (λ ps. Contains ps path) (sym paths)
          (Contains-append_left (map (path_of above) steps) (row.path ∷ []) path there))
      by (inr beyond) = further (passed
          (state_of middle.opening (middle.seen ++ l.before)).rows (last_of above steps) path row
          l.next beyond (live_then path (last_of above steps) part old middle new (Some row) a l
          live))

  pub covered_end : LooksAt (last_of above steps) middle new None → CoversLive above steps old new
  covered_end l path less live = by (c path less (live_before path old middle new g live))
    where
      by : Contains (map (path_of above) steps) path
          ⊎ (path_cmp (last_of above steps) path ≡ Less)
          → Contains (map (path_of above) steps) path
      by (inl there) = there
      by (inr beyond) = absurd (l.next path
          (live_then path (last_of above steps) part old middle new None a l live) beyond)
