-- The exchanges by which a seed is made.
use Rattle.std.proofs.Common.{◌≡◌, ℕ, List, [], ◌∷◌, ◌++◌, Option, Result, Ok, Err, refl, ap, subst, inl, inr}
use Rattle.kr_base.specs.Walks.{Talk}
use Rattle.kr_base.proofs.Walks.{talk_so, talk_then}
use Rattle.kr_kms.specs.Exchanges.{Exchange, StatusCall}
use Rattle.kr_kms.specs.Health.{TellsKeyIdBy, no_status as none_told, judged, IsStatusJudged, seed_no}
use Rattle.kr_kms.specs.Seeds.{MakesSeedBy, Draws, no_status, unhealthy, no_memory, dice_failed, not_wrapped, made}
use Rattle.kr_kms.specs.declared.plugin.KmsNo.{KmsNo}
use Rattle.kr_kms.specs.declared.seeds.SeedRow.{SeedRow}
use Rattle.kr_kms.specs.declared.health.SeedNo.{SeedNo}
use Rattle.kr_kms.specs.declared.health.SeedNo.TheVariants.{Failed, DiceFailed, Unhealthy, NoMemory}
use Rattle.kr_kms.specs.inner.Wrapping as wrap
use Rattle.kr_kms.specs.inner.Wrapping.{IsDrawn, WrapsSeedBy}

-- what comes of a wrap
abbrev pub made_of : Result SeedRow KmsNo → Result SeedRow SeedNo
made_of (Ok row) = Ok row
made_of (Err why) = Err (seed_no why)

module _ {D : Type 0} (left : D → Option (List ℕ)) (count : D → ℕ) (name : List ℕ) (dice : D) where
  abbrev Makes : Result SeedRow SeedNo → D → List Exchange → Type 0
  Makes = MakesSeedBy left count name dice

  -- the status has told no key id
  not_told : (why : SeedNo) (es : List Exchange) → TellsKeyIdBy name (Err why) es → Makes (Err why) dice es
  not_told why _ (none_told cause is) = let same : why ≡ seed_no cause = cc in no_status cause (ap Err same) refl
  not_told why _ (judged status is) = by why is
    where
      by : (why : SeedNo) → IsStatusJudged status (Err why) → Makes (Err why) dice (StatusCall name (Ok status) ∷ [])
      by Failed is = absurd is
      by DiceFailed is = absurd is
      by (Unhealthy field text) is = unhealthy status field text is refl refl
      by NoMemory is = absurd is

  -- it has, and nothing was drawn
  not_drawn : (key_id : List ℕ) (why : SeedNo) (after : D) (es : List Exchange) → IsDrawn left count dice (Err why) after → TellsKeyIdBy name (Ok key_id) es → Makes (Err why) after es
  not_drawn key_id why after _ none (none_told cause is) = absurd (cc)
  not_drawn key_id why after _ none (judged status is) = by why none
    where
      by : (why : SeedNo) → IsDrawn left count dice (Err why) after → Makes (Err why) after (StatusCall name (Ok status) ∷ [])
      by Failed none = absurd none
      by DiceFailed none = dice_failed status is.0 refl (none.1, none.2)
      by (Unhealthy field text) none = absurd none
      by NoMemory none = no_memory status is.0 refl (inl none)

  -- it has, and a wrap of what was drawn came to this
  wrapped_so : (key_id seed : List ℕ) (after : D) (result : Result SeedRow KmsNo) (es fs : List Exchange) → Draws left count dice seed after
      → TellsKeyIdBy name (Ok key_id) es → WrapsSeedBy name seed result fs → Makes (made_of result) after (es ++ fs)
  wrapped_so key_id seed after result _ fs drawn (none_told cause is) wraps = absurd (cc)
  wrapped_so key_id seed after result _ _ drawn (judged status is) (wrap.no_name e) = no_memory status is.0 (ap made_of e) (inr (seed, drawn))
  wrapped_so key_id seed after result _ _ drawn (judged status is) (wrap.not_wrapped why e) = not_wrapped status seed why is.0 drawn (ap made_of e)
  wrapped_so key_id seed after result _ _ drawn (judged status is) (wrap.made wrapped e) = made status seed wrapped is.0 drawn (ap made_of e)

  module _ {L : Type 0} (step : L → Exchange → L → Type 0) (old : L) where
    pub talk_not_told : (why : SeedNo) (new : L) → Talk step old new (TellsKeyIdBy name (Err why)) → Talk step old new (Makes (Err why) dice)
    talk_not_told why new t = talk_so step _ _ old new t (λ es told. not_told why es told)

    pub talk_not_drawn : (key_id : List ℕ) (why : SeedNo) (after : D) (new : L) → IsDrawn left count dice (Err why) after
        → Talk step old new (TellsKeyIdBy name (Ok key_id)) → Talk step old new (Makes (Err why) after)
    talk_not_drawn key_id why after new none t = talk_so step _ _ old new t (λ es told. not_drawn key_id why after es none told)

    pub talk_wrapped : (key_id seed other : List ℕ) (after : D) (mid new : L) (result : Result SeedRow KmsNo) → Draws left count dice seed after → other ≡ name
        → Talk step old mid (TellsKeyIdBy name (Ok key_id)) → Talk step mid new (WrapsSeedBy other seed result) → Talk step old new (Makes (made_of result) after)
    talk_wrapped key_id seed other after mid new result drawn same t w =
        talk_then step _ _ _ old mid new t w (λ es fs told wraps.
        wrapped_so key_id seed after result es fs drawn told (subst (λ (n : List ℕ). WrapsSeedBy n seed result fs) same wraps))
