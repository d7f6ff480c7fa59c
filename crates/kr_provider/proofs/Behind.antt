-- A prefix is its head, its name and a colon: bytes begin with it where each follows the other.
use denote.Ref.{Bor}
use Rattle.std.proofs.Common.{◌≡◌, ◌≢◌, ℕ, ◌+◌, List, ◌∷◌, ◌++◌, length, take, drop, eqb, Bool, true, false, refl, sym, ◌∙◌, ap, subst}
use Rattle.std.specs.Prelude.{MatchOption, Option}
use Rattle.std.specs.Bool.{Decides}
use Rattle.std.specs.Cmp.Lexicographic.{pointwise}
use Rattle.std.proofs.lemmas.Bool.Decides.{Decides-eqb}
use Rattle.std.proofs.lemmas.Slice.Eq.{strip_prefix_is}
use Rattle.std.proofs.lemmas.List.{append_cancel_left}
use Rattle.std.proofs.Math.Seq.{drop-append_seam}
use Rattle.kr_envelope.specs.declared.prefix.Kind.{Kind}
use Rattle.kr_envelope.specs.Prefixes.{begins, head, prefix}
use Rattle.kr_envelope.proofs.Prefixing.{begins_is, headed}

-- where a front is cut off, the bytes begin with it, and else they don't
pub stripped : (bytes cut front : List ℕ) (r : Option (Bor (List ℕ))) → cut ≡ front
    → MatchOption r (pointwise eqb (take (length cut) bytes) cut ≡ false)
    (λ rest. (pointwise eqb (take (length cut) bytes) cut ≡ true)
    × (rest.now ≡ drop (length cut) bytes) × (length rest.now + length cut ≡ length bytes))
    → MatchOption r ((rest : List ℕ) → bytes ≢ front ++ rest) (λ rest. bytes ≡ front ++ rest.now)
stripped bytes cut front r is cases =
    subst (λ f. MatchOption r ((rest : List ℕ) → bytes ≢ f ++ rest) (λ rest. bytes ≡ f ++ rest.now)) is
    (strip_prefix_is Decides-eqb bytes cut r cases)

refuted : (b : Bool) (P : Type 0) → Decides b P → (P → ⊥) → b ≡ false
refuted true P d n = absurd (n (d.0 refl))
refuted false P d n = refl

pub not_begun : (start bytes : List ℕ) → ((rest : List ℕ) → bytes ≢ start ++ rest)
    → begins start bytes ≡ false
not_begun start bytes h = refuted _ _ (begins_is start bytes) (λ b. h b.0 b.1)

pub begun : (start bytes rest : List ℕ) → bytes ≡ start ++ rest
    → (begins start bytes ≡ true) × (rest ≡ drop (length start) bytes)
begun start bytes rest e = (
  (begins_is start bytes).1 (rest, e),
  sym
      (ap (drop (length start)) e ∙ drop-append_seam start rest),
)

pub without_head : (kind : Kind) (name bytes : List ℕ)
    → ((rest : List ℕ) → bytes ≢ head kind ++ rest) → begins (prefix kind name) bytes ≡ false
without_head kind name bytes h = not_begun (prefix kind name) bytes
    (λ rest e. h (name ++ 0x3A ∷ rest) (e ∙ headed kind name rest))

pub without_name : (kind : Kind) (name bytes named : List ℕ) → bytes ≡ head kind ++ named
    → ((rest : List ℕ) → named ≢ name ++ rest) → begins (prefix kind name) bytes ≡ false
without_name kind name bytes named is h = not_begun (prefix kind name) bytes
    (λ rest e. h (0x3A ∷ rest) (append_cancel_left (head kind) named (name ++ 0x3A ∷ rest)
    (sym is ∙ e ∙ headed kind name rest)))

pub without_colon : (kind : Kind) (name bytes named ended : List ℕ) → bytes ≡ head kind ++ named
    → named ≡ name ++ ended → ((rest : List ℕ) → ended ≢ 0x3A ∷ rest)
    → begins (prefix kind name) bytes ≡ false
without_colon kind name bytes named ended is then h =
    not_begun (prefix kind name) bytes (λ rest e.
    h rest (append_cancel_left name ended (0x3A ∷ rest)
    (sym then ∙ append_cancel_left (head kind) named (name ++ 0x3A ∷ rest)
    (sym is ∙ e ∙ headed kind name rest))))

pub with_prefix : (kind : Kind) (name bytes named ended rest : List ℕ) → bytes ≡ head kind ++ named
    → named ≡ name ++ ended → ended ≡ 0x3A ∷ rest
    → (begins (prefix kind name) bytes ≡ true) × (rest ≡ drop (length (prefix kind name)) bytes)
with_prefix kind name bytes named ended rest is then last =
    begun (prefix kind name) bytes rest (is ∙ ap (λ l. head kind ++ l)
    (then ∙ ap (λ l. name ++ l) last) ∙ sym (headed kind name rest))
