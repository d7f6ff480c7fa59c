-- The counts of faults of the source and the sink behind lines that were answered.
use Rattle.std.proofs.Common.{◌≡◌, ℕ, inl, inr, refl, subst}
use Rattle.kr_base.specs.Faults.{counted}
use Rattle.kr_keywrap.specs.Serving.{CountsFaults, serve_failed}
use Rattle.kr_keywrap.specs.declared.serving.Served.{Served}
use Rattle.kr_keywrap.specs.declared.serving.Served.TheVariants.{Failed}

-- the source alone was asked
pub source_counts : (why : Served) (a b c : ℕ) → b ≡ counted (serve_failed why) a
    → CountsFaults why a b c c
source_counts Failed a b c e = inl (e, refl)
source_counts other a b c e = (e, refl)

-- the sink failed, or there was no memory for what it was to take
pub sink_counts : (why : Served) (a b c d : ℕ) → b ≡ a → d ≡ counted (serve_failed why) c
    → CountsFaults why a b c d
sink_counts Failed a b c d s e = inr (s, e)
sink_counts other a b c d s e = (s, e)

-- no count had risen before
pub counts_behind : (why : Served) (a m b c n d : ℕ) → m ≡ a → n ≡ c → CountsFaults why m b n d
    → CountsFaults why a b c d
counts_behind why a m b c n d s t e = subst (λ (k : ℕ). CountsFaults why k b c d) s
    (subst (λ (k : ℕ). CountsFaults why m b k d) t e)
