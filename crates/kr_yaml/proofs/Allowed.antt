-- The steps of a loop over the characters of a line.
use Rattle.std.proofs.Common.{◌≡◌, ℕ, ◌+◌, ◌<◌, Bool, true, false, List, length, get_or, take, sym}
use Rattle.std.proofs.Common.{ap, ◌∙◌, arith}
use Rattle.std.specs.Prelude.{◌&&◌}
use Rattle.std.specs.List.{list_all}
use Rattle.std.proofs.lemmas.List.{take_all}
use Rattle.std.proofs.lemmas.List.Folds.{list_all_more, list_all_at}

pub all_more : (p : ℕ → Bool) (cs : List ℕ) (i j c : ℕ) → list_all p (take i cs) ≡ true
    → i < length cs → c ≡ get_or cs i c → j ≡ i + 1 → p c ≡ true → list_all p (take j cs) ≡ true
all_more p cs i j c all h is next e =
    ap (λ n. list_all p (take n cs)) next ∙ list_all_more p cs i c h
    ∙ ap (λ v. v && p (get_or cs i c)) all ∙ ap p (sym is) ∙ e

pub all_stops : (p : ℕ → Bool) (cs : List ℕ) (i c : ℕ) → i < length cs → c ≡ get_or cs i c
    → p c ≡ false → list_all p cs ≡ false
all_stops p cs i c h is e = list_all_at p cs i c h (ap p (sym is) ∙ e)

pub all_ends : (p : ℕ → Bool) (cs : List ℕ) (i : ℕ) → list_all p (take i cs) ≡ true → i ≡ length cs
    → list_all p cs ≡ true
all_ends p cs i all h = ap (list_all p) (sym (take_all i cs (omega arith))) ∙ all
