-- Looking for a replica by its name.
use Rattle.std.proofs.Common.{◌≡◌, ℕ, suc, ◌+◌, ◌<◌, ◌≤◌, Bool, true, false, List, ◌∷◌, length}
use Rattle.std.proofs.Common.{drop, None, Some, sym, ap, ◌∙◌, get_or, add-one}
use Rattle.std.specs.Prelude.{if◌then◌else◌}
use Rattle.std.specs.Str.{bytes_eq}
use Rattle.std.proofs.Math.Seq.{drop-cons}
use Rattle.std.proofs.lemmas.List.{drop_all}
use Rattle.kr_script.specs.inner.Drafts.{place_from}

opened : (rs : List (List ℕ × List ℕ)) (i : ℕ) (r : List ℕ × List ℕ) → i < length rs
    → r ≡ get_or rs i r → drop i rs ≡ r ∷ drop (i + 1) rs
opened rs i r h is = rw add-one
    (drop-cons rs i r h ∙ ap (λ y. y ∷ drop (suc i) rs) (sym is))

by : (rs : List (List ℕ × List ℕ)) (name : List ℕ) (i : ℕ) (r : List ℕ × List ℕ) (b : Bool)
    → i < length rs → r ≡ get_or rs i r → bytes_eq r.0 name ≡ b
    → place_from i (drop i rs) name
    ≡ (if b then Some i else place_from (i + 1) (drop (i + 1) rs) name)
by rs name i r b h is e = ap (λ l. place_from i l name) (opened rs i r h is)
    ∙ ap (λ t. if t then Some i else place_from (i + 1) (drop (i + 1) rs) name) e

pub place_here : (rs : List (List ℕ × List ℕ)) (name : List ℕ) (i : ℕ) (r : List ℕ × List ℕ)
    → place_from 0 rs name ≡ place_from i (drop i rs) name → i < length rs → r ≡ get_or rs i r
    → bytes_eq r.0 name ≡ true → Some i ≡ place_from 0 rs name
place_here rs name i r inv h is e = sym (inv ∙ by rs name i r true h is e)

pub place_more : (rs : List (List ℕ × List ℕ)) (name : List ℕ) (i : ℕ) (r : List ℕ × List ℕ)
    → place_from 0 rs name ≡ place_from i (drop i rs) name → i < length rs → r ≡ get_or rs i r
    → bytes_eq r.0 name ≡ false
    → place_from 0 rs name ≡ place_from (i + 1) (drop (i + 1) rs) name
place_more rs name i r inv h is e = inv ∙ by rs name i r false h is e

pub place_none : (rs : List (List ℕ × List ℕ)) (name : List ℕ) (i : ℕ)
    → place_from 0 rs name ≡ place_from i (drop i rs) name → length rs ≤ i
    → None ≡ place_from 0 rs name
place_none rs name i inv h = sym (inv ∙ ap (λ l. place_from i l name) (drop_all i rs h))
