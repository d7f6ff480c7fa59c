-- The link at the place of a name is asked, and the others stay.
use Rattle.std.proofs.Common.{◌≡◌, ℕ, List, [], ◌∷◌, get_or, Some, refl, ap, ◌∙◌, subst}
use Rattle.std.specs.Prelude.{position, slice_set}
use Rattle.std.specs.Str.{bytes_eq}
use Rattle.kr_base.specs.Walks.{Talk}
use Rattle.kr_kms.specs.Calls.{Link, IsSameLink}
use Rattle.kr_provider.specs.AskedLinks.{Among, AsksOne}
use Rattle.kr_provider.specs.Names.{AreDistinct}
use Rattle.kr_provider.proofs.AskedLists.{asked_alone, asks_at, distinct_stay, place_named}
use Rattle.kr_provider.proofs.LinkTalks.{talk_among}

module _ {L : Type 0} (link : L → Link) (name : List ℕ) {old items : List L} {at : ℕ}
    {before : L} (after : L) (view : items ≡ old)
    (found : position (λ l. bytes_eq (link l).name name) old ≡ Some at)
    (is : before ≡ get_or items at before) (same : IsSameLink (link before) (link after)) where
  place : position (λ l. bytes_eq (link l).name name) items ≡ Some at
  place = ap (position (λ l. bytes_eq (link l).name name)) view ∙ found

  asked : (Asks : L → L → Type 0) → Asks before after
      → AsksOne link name Asks items (slice_set items at after)
  asked Asks asks =
      asks_at link name Asks items (slice_set items at after) at before after place is refl same asks

  pub distinct_there : AreDistinct link items → AreDistinct link (slice_set items at after)
  distinct_there = distinct_stay link (name ∷ []) items (slice_set items at after)
      (asked_alone link name (λ x y. IsSameLink (link x) (link y)) items
      (slice_set items at after) (asked (λ x y. IsSameLink (link x) (link y)) same))

  pub asks_there : (Asks : L → L → Type 0) → Asks before after
      → AsksOne link name Asks old (slice_set items at after)
  asks_there Asks asks =
      subst (λ l. AsksOne link name Asks l (slice_set items at after)) view (asked Asks asks)

  -- what is exchanged with it goes by its name
  pub talks_there : {E : Type 0} (step : L → E → L → Type 0) (Are : List ℕ → List E → Type 0)
      → Talk step before after (Are (link before).name)
      → Talk (Among step) old (slice_set items at after) (Are name)
  talks_there step Are talk =
      subst (λ l. Talk (Among step) l (slice_set items at after) (Are name)) view
      (talk_among step link name (Are name) items (slice_set items at after)
      (asked (λ x y. Talk step x y (Are name))
      (subst (λ n. Talk step before after (Are n)) (place_named link name items at before place is)
      talk)))
