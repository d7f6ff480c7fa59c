-- Steps of what is kept by path and by pair, as calls leave them.
use Rattle.std.proofs.Common.{◌≡◌, ℕ, ◌<◌, Bool, true, false, List, [], length, None, Some, refl, sym, ap, subst, ◌∙◌}
use Rattle.std.specs.Prelude.{◌==◌, if◌then◌else◌, IsSome}
use Rattle.std.specs.Map.{lookup, remove_entry}
use Rattle.std.specs.Set.{remove_key}
use Rattle.std.specs.BTreeMap.{insert_entry, is_at}
use Rattle.std.specs.BTreeSet.{insert_key}
use Rattle.kr_config.specs.Nexts.{name_cmp}
use Rattle.kr_judge.specs.declared.pair.Pair.{Pair}
use Rattle.kr_judge.specs.declared.proposal.Proposal.{Proposal}
use Rattle.kr_judge.specs.inner.Indexes.{AreSorted, without_proposed, IsIndexed, IsChangedAt, MovesUnless, IsMoved}
use Rattle.kr_judge.proofs.Entries.{Entries, put_and_taken}
use Rattle.kr_judge.proofs.Indexed as step

some_there : (es : Entries) (path : List ℕ) (q : ℕ) → Some q ≡ lookup (is_at (name_cmp path)) es → IsSome (lookup (is_at (name_cmp path)) es)
some_there es path q h = subst IsSome h refl

pub made_there : (es : Entries) (old new : List Pair) (path kept : List ℕ) (place q : ℕ) → IsIndexed es old None → place < length old → length new ≡ length old → Some q ≡ lookup (is_at (name_cmp path)) es → kept ≡ path
    → IsChangedAt (λ paths. insert_key name_cmp paths kept) place old new → IsIndexed es new (Some (record { path = kept; place = place; fresh = false }))
made_there es old new path kept place q ix fits same found is change = subst (λ k. IsIndexed es new (Some (record { path = k; place = place; fresh = false }))) (sym is)
    (step.made_there es old new path place ix fits same (some_there es path q found) (subst (λ k. IsChangedAt (λ paths. insert_key name_cmp paths k) place old new) is change))

pub made_fresh : (es all : Entries) (old new : List Pair) (path kept key : List ℕ) (place : ℕ) → IsIndexed es old None → place < length old → length new ≡ length old → None ≡ lookup (is_at (name_cmp path)) es → kept ≡ path → key ≡ kept
    → IsChangedAt (λ paths. insert_key name_cmp paths kept) place old new → all ≡ insert_entry name_cmp es key place → AreSorted all → IsIndexed all new (Some (record { path = kept; place = place; fresh = true }))
made_fresh es all old new path kept key place ix fits same none is key_is change put sorted =
    let whole : all ≡ insert_entry name_cmp es path place = put ∙ ap (λ k. insert_entry name_cmp es k place) (key_is ∙ is) in
    subst (λ k. IsIndexed all new (Some (record { path = k; place = place; fresh = true }))) (sym is)
    (subst (λ l. IsIndexed l new (Some (record { path = path; place = place; fresh = true }))) (sym whole) (step.made_fresh es old new path place ix fits same (sym none) (subst (λ k. IsChangedAt (λ paths. insert_key name_cmp paths k) place old new) is change) (subst AreSorted whole sorted)))

pub made_and_gone : (es all : Entries) (old mid new : List Pair) (path kept : List ℕ) (place : ℕ) → IsIndexed es old None → None ≡ lookup (is_at (name_cmp path)) es → kept ≡ path → IsChangedAt (λ paths. insert_key name_cmp paths kept) place old mid
    → IsChangedAt (remove_key (is_at (name_cmp path))) place mid new → all ≡ es → IsIndexed all new None
made_and_gone es all old mid new path kept place ix none is put taken same = subst (λ l. IsIndexed l new None) (sym same) (step.made_and_gone es old mid new path place ix (sym none) (subst (λ k. IsChangedAt (λ paths. insert_key name_cmp paths k) place old mid) is put) taken)

pub without_fresh : (es all : Entries) (path kept key : List ℕ) (place : ℕ) → None ≡ lookup (is_at (name_cmp path)) es → kept ≡ path → key ≡ kept → all ≡ insert_entry name_cmp es key place
    → without_proposed (Some (record { path = kept; place = place; fresh = true })) all ≡ es
without_fresh es all path kept key place none is key_is put =
    ap (λ k. remove_entry (is_at (name_cmp k)) all) is ∙ ap (remove_entry (is_at (name_cmp path))) (put ∙ ap (λ k. insert_entry name_cmp es k place) (key_is ∙ is)) ∙ put_and_taken es path place (sym none)

pub there : (es : Entries) (pairs : List Pair) (p : Proposal) → IsIndexed es pairs (Some p) → None ≡ lookup (is_at (name_cmp p.path)) es → ⊥
there es pairs p ix none = (let some : IsSome (lookup (is_at (name_cmp p.path)) es) = ix.stands.1 in let no_one : IsSome {T = ℕ} None = subst IsSome (sym none) some in cc)

pub fits : (es : Entries) (pairs : List Pair) (p : Proposal) (path : List ℕ) (q : ℕ) → IsIndexed es pairs (Some p) → Some q ≡ lookup (is_at (name_cmp path)) es → q < length pairs
fits es pairs p path q ix found = step.place_fits es pairs (Some p) path q ix (sym found)

pub fits_none : (es : Entries) (pairs : List Pair) (path : List ℕ) (q : ℕ) → IsIndexed es pairs None → Some q ≡ lookup (is_at (name_cmp path)) es → q < length pairs
fits_none es pairs path q ix found = step.place_fits es pairs None path q ix (sym found)

pub place_fits : (es : Entries) (pairs : List Pair) (p : Proposal) → IsIndexed es pairs (Some p) → p.place < length pairs
place_fits es pairs p ix = ix.stands.0

pub kept : (es all : Entries) (old new : List Pair) (p : Proposal) (q : ℕ) → IsIndexed es old (Some p) → Some q ≡ lookup (is_at (name_cmp p.path)) es → IsMoved (remove_key (is_at (name_cmp p.path))) q p.place old new
    → all ≡ insert_entry name_cmp es p.path p.place → AreSorted all → IsIndexed all new None
kept es all old new p q ix found moved put sorted = subst (λ l. IsIndexed l new None) (sym put) (by (q == p.place) refl moved)
  where
    by : (v : Bool) → (q == p.place) ≡ v → MovesUnless v (remove_key (is_at (name_cmp p.path))) q old new → IsIndexed (insert_entry name_cmp es p.path p.place) new None
    by true e same = subst (λ l. IsIndexed (insert_entry name_cmp es p.path p.place) l None) (sym same) (step.kept_own es old p q ix (sym found) e (subst AreSorted put sorted))
    by false e change = step.kept_moved es old new p q ix (sym found) e change (subst AreSorted put sorted)

pub gone_fresh : (es all : Entries) (old new : List Pair) (p : Proposal) → IsIndexed es old (Some p) → p.fresh ≡ true → all ≡ remove_entry (is_at (name_cmp p.path)) es → AreSorted all
    → IsChangedAt (remove_key (is_at (name_cmp p.path))) p.place old new → IsIndexed all new None
gone_fresh es all old new p ix fresh gone sorted change = subst (λ l. IsIndexed l new None) (sym gone) (step.gone_fresh es old new p ix fresh change (subst AreSorted gone sorted))

pub gone_there : (es : Entries) (old new : List Pair) (p : Proposal) (q : ℕ) → IsIndexed es old (Some p) → Some q ≡ lookup (is_at (name_cmp p.path)) es → (q == p.place) ≡ false
    → IsChangedAt (remove_key (is_at (name_cmp p.path))) p.place old new → IsIndexed es new None
gone_there es old new p q ix found apart change = step.gone_there es old new p q ix (sym found) apart change

pub taken_fresh : (es all : Entries) (p : Proposal) → p.fresh ≡ true → all ≡ remove_entry (is_at (name_cmp p.path)) es → all ≡ without_proposed (Some p) es
taken_fresh es all p fresh gone = gone ∙ sym (ap (λ (v : Bool). if v then remove_entry (is_at (name_cmp p.path)) es else es) fresh)

pub taken_there : (es : Entries) (p : Proposal) → p.fresh ≡ false → es ≡ without_proposed (Some p) es
taken_there es p fresh = sym (ap (λ (v : Bool). if v then remove_entry (is_at (name_cmp p.path)) es else es) fresh)

pub dropped_own : (es all : Entries) (old new : List Pair) (path : List ℕ) (q : ℕ) → IsIndexed es old None → Some q ≡ lookup (is_at (name_cmp path)) es → all ≡ remove_entry (is_at (name_cmp path)) es → AreSorted all
    → IsChangedAt (remove_key (is_at (name_cmp path))) q old new → IsIndexed all new None
dropped_own es all old new path q ix found gone sorted change = subst (λ l. IsIndexed l new None) (sym gone) (step.dropped_own es old new path q ix (sym found) change (subst AreSorted gone sorted))

pub dropped_none : (es all : Entries) (pairs : List Pair) (path : List ℕ) → IsIndexed es pairs None → None ≡ lookup (is_at (name_cmp path)) es → all ≡ remove_entry (is_at (name_cmp path)) es → AreSorted all → IsIndexed all pairs None
dropped_none es all pairs path ix none gone sorted = subst (λ l. IsIndexed l pairs None) (sym gone) (step.dropped_none es pairs path ix (sym none) (subst AreSorted gone sorted))

pub none_yet : (es : Entries) (pairs : List Pair) → es ≡ [] → pairs ≡ [] → IsIndexed es pairs None
none_yet es pairs e p = subst (λ l. IsIndexed l pairs None) (sym e) (subst (λ l. IsIndexed [] l None) (sym p) step.indexed_nil)

pub apart : (a b : ℕ) → (a ≡ b → ⊥) → (a == b) ≡ false
apart a b h = by (a == b) refl
  where
    by : (v : Bool) → (a == b) ≡ v → v ≡ false
    by true e = absurd (h (step.number_is a b e))
    by false e = refl
