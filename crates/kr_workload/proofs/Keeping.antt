-- The load's configurations keep the rules.
use Rattle.std.proofs.Common.{◌≡◌, ℕ, List, [], ◌∷◌, codes, length}
use Rattle.std.specs.Prelude.{IsTrue}
use Rattle.kr_config.specs.Kept.{keeps}
use Rattle.kr_config.specs.declared.who.Who.TheVariants.{Aesgcm, Identity}
use Rattle.kr_workload.specs.Loads.{of_secrets}

pub keeps_one : (secret : List ℕ) → length secret ≡ 32
    → IsTrue (keeps (of_secrets (Aesgcm (codes "g1") secret ∷ (Identity ∷ []))))
unfolding keeps
keeps_one secret long = simp long

pub keeps_both : (secret other : List ℕ) → length secret ≡ 32 → length other ≡ 32
    → IsTrue (keeps (of_secrets (Aesgcm (codes "g1") secret
    ∷ (Aesgcm (codes "g2") other ∷ (Identity ∷ [])))))
unfolding keeps
keeps_both secret other long too = simp (long, too)

pub keeps_turned : (secret other : List ℕ) → length secret ≡ 32 → length other ≡ 32
    → IsTrue (keeps (of_secrets (Aesgcm (codes "g2") secret
    ∷ (Aesgcm (codes "g1") other ∷ (Identity ∷ [])))))
unfolding keeps
keeps_turned secret other long too = simp (long, too)
