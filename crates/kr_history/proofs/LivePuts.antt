-- What lives was live at the opening, or was put since.
use Rattle.std.proofs.Common.{◌≡◌, ◌⊎◌, inl, inr, ℕ, Bool, true, false, List, [], ◌∷◌, ◌++◌, Option, None, Some, Contains, if◌then◌else◌, refl, sym, ap, subst, ◌∙◌, arith}
use Rattle.std.specs.Prelude.{IsSome}
use Rattle.std.specs.Str.{bytes_eq}
use Rattle.std.proofs.lemmas.Bool.{false≢true}
use Rattle.std.proofs.lemmas.List.Elements.{Contains-append_left, Contains-append_right}
use Rattle.std.proofs.lemmas.Option.{none-some}
use Rattle.kr_store.specs.declared.rows.Row.{Row}
use Rattle.kr_store.specs.Rows.{later, live}
use Rattle.kr_kms.specs.Opens.{Opens}
use Rattle.kr_rollout.specs.declared.line.Did.{Did}
use Rattle.kr_rollout.specs.declared.line.Did.TheVariants.{Put, Delete}
use Rattle.kr_rollout.specs.declared.line.Gave.{Gave}
use Rattle.kr_rollout.specs.declared.line.Gave.TheVariants.{Written}
use Rattle.kr_rollout.specs.declared.opening.Entry.{Entry}
use Rattle.kr_history.specs.Contents.{ContentBy, ContentChange, change_at, change_by, OpeningContent, deletes, last_change, puts}
use Rattle.kr_history.specs.ContentLaws.{LiveWasPut}
use Rattle.kr_rollout.specs.Openings.{first_of}
use Rattle.kr_history.specs.Parts.{written_put, written_puts}
use Rattle.kr_history.proofs.ContentSteps.{nothing_is_absent, one_path}

-- a Put of the path is among these
abbrev IsPutAmong : List Did → (path plain : List ℕ) → Type 0
IsPutAmong dids path plain = (resource : List ℕ) × Contains dids (Put path resource plain)

abbrev data_in : Option ContentChange → List ℕ
data_in (Some (puts plain)) = plain
data_in other = []

abbrev is_put : Option ContentChange → Bool
is_put (Some (puts plain)) = true
is_put other = false

put_here : (did : Did) (path plain : List ℕ) (revision : ℕ)
    → change_by did path ≡ Some (puts plain)
    → IsPutAmong (written_put (Written revision) did) path plain
put_here (Put own resource bytes) path plain n is = by (bytes_eq own path) refl is
  where
    by : (b : Bool) → bytes_eq own path ≡ b
        → (if b then Some (puts bytes) else None) ≡ Some (puts plain)
        → IsPutAmong (Put own resource bytes ∷ []) path plain
    by true at e =
        let same : Put own resource bytes ≡ Put path resource plain =
        λ i. Put (one_path own path at i) resource (ap data_in e i) in
        (resource, (0, omega arith, same))
    by false at e = absurd (none-some (puts plain) e)
put_here (Delete own) path plain n is = by (bytes_eq own path) is
  where
    by : (b : Bool) → (if b then Some deletes else None) ≡ Some (puts plain)
        → IsPutAmong [] path plain
    by true e = absurd (false≢true (ap is_put e))
    by false e = absurd (none-some (puts plain) e)
put_here other path plain n is = absurd (none-some (puts plain) is)

put_at : (gave : Gave) (did : Did) (path plain : List ℕ)
    → change_at gave did path ≡ Some (puts plain)
    → IsPutAmong (written_put gave did) path plain
put_at (Written n) did path plain is = put_here did path plain n is
put_at other did path plain is = absurd (none-some (puts plain) is)

put_since : (history : List Entry) (path plain : List ℕ)
    → last_change history path ≡ Some (puts plain)
    → IsPutAmong (written_puts history) path plain
put_since [] path plain is = absurd (none-some (puts plain) is)
put_since (e ∷ history) path plain is =
    by (last_change history path) refl is (put_since history path plain)
  where
    by : (c : Option ContentChange) → last_change history path ≡ c
        → later c (change_at e.line.gave e.line.did path) ≡ Some (puts plain)
        → (last_change history path ≡ Some (puts plain)
        → IsPutAmong (written_puts history) path plain)
        → IsPutAmong (written_put e.line.gave e.line.did ++ written_puts history) path plain
    by None at same rest =
        let r = put_at e.line.gave e.line.did path plain same in (
          r.0,
          Contains-append_left (written_put e.line.gave e.line.did) (written_puts history)
              (Put path r.0 plain) r.1,
        )
    by (Some change) at same rest =
        let r = rest (at ∙ same) in (
          r.0,
          Contains-append_right (written_put e.line.gave e.line.did) (written_puts history)
              (Put path r.0 plain) r.1,
        )

abbrev nothing_opens : Opens
nothing_opens key = None

pub live_was_put : LiveWasPut
live_was_put o history path row legal is =
    by (last_change history path) refl (live o.rows path) refl
    (λ none. absurd (none-some row (sym ((nothing_is_absent nothing_opens o history path legal).0
    none) ∙ is)))
  where
    by : (c : Option ContentChange) → last_change history path ≡ c
        → (first : Option Row) → live o.rows path ≡ first
        → (ContentBy (last_change history path) nothing_opens o path None → ⊥)
        → IsSome (live o.rows path)
        ⊎ ((resource : List ℕ) × (plain : List ℕ) × Contains (written_puts history) (Put path resource plain))
    by (Some (puts plain)) at first from none =
        let r = put_since history path plain at in inr (r.0, plain, r.1)
    by (Some deletes) at first from none = absurd (none
        (subst (λ c. ContentBy c nothing_opens o path None) (sym at) refl))
    by None at None from none = absurd (none
        (subst (λ c. ContentBy c nothing_opens o path None) (sym at)
        (subst (λ x. OpeningContent nothing_opens (first_of o) path x None) (sym from) refl)))
    by None at (Some first) from none =
        inl (subst (λ x. IsSome x) (sym from) refl)
