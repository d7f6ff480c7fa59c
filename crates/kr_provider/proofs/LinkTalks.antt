-- What one link of a list was asked, the list was.
use Rattle.std.proofs.Common.{ℕ, List, [], ◌∷◌, ◌++◌, refl, sym, ap, subst, inl}
use Rattle.std.specs.Prelude.{Result, ◌⊎◌}
use Rattle.kr_base.specs.Walks.{Walk, Talk}
use Rattle.kr_base.proofs.Walks.{talk_so}
use Rattle.kr_kms.specs.Calls.{Link}
use Rattle.kr_kms.specs.declared.health.SeedNo.{SeedNo}
use Rattle.kr_provider.specs.declared.refusal.PublishNo.{PublishNo}
use Rattle.kr_provider.specs.AskedLinks.{Among, AsksOne}
use Rattle.kr_provider.specs.Exchanges.{IsToldAt}

module _ {L E : Type 0} (step : L → E → L → Type 0) where
  walk_among : (front behind : List L) (old : L) (es : List E) (new : L) → Walk step old es new
      → Walk (Among step) (front ++ old ∷ behind) es (front ++ new ∷ behind)
  walk_among front behind old [] new w = ap (λ (l : L). front ++ l ∷ behind) w
  walk_among front behind old (e ∷ es) new (mid, s, w) = (
    front ++ mid ∷ behind,
    record {
      front = front;
      behind = behind;
      old = old;
      new = mid;
      olds_are = refl;
      news_are = refl;
      steps = s;
    },
    walk_among front behind mid es new w,
  )

  pub talk_among : (link : L → Link) (name : List ℕ) (Are : List E → Type 0) (xs ys : List L)
      → AsksOne link name (λ old new. Talk step old new Are) xs ys → Talk (Among step) xs ys Are
  talk_among link name Are xs ys a =
      let at : Talk (Among step) (a.front ++ a.old ∷ a.behind) (a.front ++ a.new ∷ a.behind) Are = record {
        steps = a.asks.steps;
        walk = walk_among a.front a.behind a.old a.asks.steps a.new a.asks.walk;
        are = a.asks.are;
      } in
      let P : List L → Type 0 = λ l. Talk (Among step) l ys Are in
      let Q : List L → Type 0 = λ l. Talk (Among step) (a.front ++ a.old ∷ a.behind) l Are in
      subst P (sym a.olds_are) (subst Q (sym a.news_are) at)

-- what the plugin of the name answered is told as its own
pub told_at : {S E T : Type 0} {step : S → E → S → Type 0} {old new : S} (name : List ℕ)
    (answer : Result T SeedNo) (result : Result T PublishNo)
    (Answers : Result T SeedNo → List E → Type 0) → IsToldAt name answer result
    → Talk step old new (Answers answer) → Talk step old new
    (λ es. (given : Result T SeedNo) × Answers given es × IsToldAt name given result)
told_at name answer result Answers told talk =
    talk_so _ _ _ _ _ talk (λ es answers. (answer, answers, told))

-- the same where it may not have been asked
pub refused_at : {S E T : Type 0} {step : S → E → S → Type 0} {old new : S} (name : List ℕ)
    (answer : Result T SeedNo) (result : Result T PublishNo)
    (Answers : Result T SeedNo → List E → Type 0) (Unasked : List E → Type 0)
    → IsToldAt name answer result → Talk step old new (Answers answer) → Talk step old new
    (λ es. ((given : Result T SeedNo) × Answers given es × IsToldAt name given result) ⊎ Unasked es)
refused_at name answer result Answers Unasked told talk =
    talk_so _ _ _ _ _ talk (λ es answers. inl (answer, answers, told))
