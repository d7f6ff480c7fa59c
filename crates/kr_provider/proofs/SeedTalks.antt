-- The exchanges by which seeds are made one after another.
use Rattle.std.proofs.Common.{◌≡◌, ℕ, List, [], ◌∷◌, ◌++◌, Option, Some, None, Result, Ok, Err, refl, sym, ap, subst, append-nil, append_assoc, inl, inr}
use Rattle.kr_base.specs.Walks.{Talk}
use Rattle.kr_base.proofs.Walks.{talk_none, talk_so, talk_then}
use Rattle.kr_config.specs.Nexts.{IsNextName}
use Rattle.kr_kms.specs.Exchanges.{Exchange}
use Rattle.kr_kms.specs.Seeds.{MakesSeedBy}
use Rattle.kr_kms.specs.declared.seeds.SeedRow.{SeedRow}
use Rattle.kr_provider.specs.Exchanges.{MakesSeedsBy, all_made, refused, no_name, no_room, went_on, with_seed_first}
use Rattle.kr_provider.specs.declared.refusal.PublishNo.{PublishNo}
use Rattle.kr_provider.specs.declared.refusal.PublishNo.TheVariants.{NoMemory}
use Rattle.kr_provider.specs.inner.Making.{MakesOneBy}

-- seeds before others, where those were made
abbrev with_seeds : List SeedRow → Result (List SeedRow) PublishNo → Result (List SeedRow) PublishNo
with_seeds made (Ok rows) = Ok (made ++ rows)
with_seeds made (Err why) = Err why

none_first : (result : Result (List SeedRow) PublishNo) → result ≡ with_seeds [] result
none_first (Ok rows) = refl
none_first (Err why) = refl

one_more : (made : List SeedRow) (row : SeedRow) (result : Result (List SeedRow) PublishNo)
    → with_seeds made (with_seed_first row result) ≡ with_seeds (made ++ row ∷ []) result
one_more made row (Ok rows) = ap Ok (sym (append_assoc made (row ∷ []) rows))
one_more made row (Err why) = refl

module _ {L D : Type 0} (step : L → Exchange → L → Type 0) (left : D → Option (List ℕ)) (count : D → ℕ)
    (names : List (List ℕ)) (first : D) where
  abbrev Makes : List ℕ → D → Result (List SeedRow) PublishNo → D → List Exchange → Type 0
  Makes = MakesSeedsBy left count names

  -- whatever the names behind this one come to completes what came before
  abbrev pub Completes : List ℕ → List SeedRow → D → List Exchange → Type 0
  Completes passed made dice es = (result : Result (List SeedRow) PublishNo) (after : D) (fs : List Exchange)
      → Makes passed dice result after fs → Makes [] first (with_seeds made result) after (es ++ fs)

  pub talk_begins : (links : L) → Talk step links links (Completes [] [] first)
  talk_begins links = talk_none step (Completes [] [] first) links
      (λ result after fs h. subst (λ r. Makes [] first r after fs) (none_first result) h)

  module _ (passed : List ℕ) (made : List SeedRow) (dice : D) (old mid : L) (so_far : Talk step old mid (Completes passed made dice)) where
    -- no name comes next
    pub talk_ends : IsNextName names passed None → Talk step old mid (Makes [] first (Ok made) dice)
    talk_ends none = talk_so step _ _ old mid so_far (λ es completes.
        subst (Makes [] first (Ok made) dice) (append-nil es)
        (subst (λ l. Makes [] first (Ok l) dice (es ++ [])) (append-nil made)
        (completes (Ok []) dice [] (all_made none))))

    module _ (name : List ℕ) (next : IsNextName names passed (Some name)) (after : D) (new : L) where
      one_told : (result : Result SeedRow PublishNo) (es : List Exchange) → MakesOneBy left count name dice result after es
          → (row : SeedRow) → result ≡ Ok row → MakesSeedBy left count name dice (Ok row) after es
      one_told (Ok made) es (Ok given, makes, told) row is =
          let same : given ≡ row = cc in subst (λ r. MakesSeedBy left count name dice (Ok r) after es) same makes
      one_told (Ok made) es (Err why, makes, told) row is = absurd told
      one_told (Err why) es told row is = absurd (cc)

      -- the next plugin makes none
      stopped : (why : PublishNo) (es fs : List Exchange) → Completes passed made dice es
          → MakesOneBy left count name dice (Err why) after fs → Makes [] first (Err why) after (es ++ fs)
      stopped why es fs completes (inl (Ok row, makes, told)) = absurd (cc)
      stopped why es fs completes (inl (Err cause, makes, told)) =
          completes (Err why) after fs (refused name cause why next makes told)
      stopped why es fs completes (inr (lacks, same, none)) =
          subst (λ gs. Makes [] first (Err why) after (es ++ gs)) (sym none)
          (subst (λ d. Makes [] first (Err why) d (es ++ [])) (sym same)
          (subst (λ w. Makes [] first (Err w) dice (es ++ [])) (sym lacks)
          (completes (Err NoMemory) dice [] (no_name name next))))

      pub talk_stops : (why : PublishNo) → Talk step mid new (MakesOneBy left count name dice (Err why) after)
          → Talk step old new (Makes [] first (Err why) after)
      talk_stops why t = talk_then step _ _ _ old mid new so_far t (λ es fs completes makes. stopped why es fs completes makes)

      -- it makes one, for which there is no memory
      pub talk_lacks : (row : SeedRow) → Talk step mid new (MakesOneBy left count name dice (Ok row) after)
          → Talk step old new (Makes [] first (Err NoMemory) after)
      talk_lacks row t = talk_then step _ _ _ old mid new so_far t (λ es fs completes makes.
          completes (Err NoMemory) after fs (no_room name row next (one_told (Ok row) fs makes row refl)))

      -- or with which it goes on
      pub talk_goes_on : (row : SeedRow) → Talk step mid new (MakesOneBy left count name dice (Ok row) after)
          → Talk step old new (Completes name (made ++ row ∷ []) after)
      talk_goes_on row t = talk_then step _ _ _ old mid new so_far t (λ es fs completes makes result last gs rest.
          subst (Makes [] first (with_seeds (made ++ row ∷ []) result) last) (sym (append_assoc es fs gs))
          (subst (λ r. Makes [] first r last (es ++ (fs ++ gs))) (one_more made row result)
          (completes (with_seed_first row result) last (fs ++ gs) (went_on name row next (one_told (Ok row) fs makes row refl) rest))))
