-- Places that may be free.
use Rattle.std.proofs.Common.{◌≡◌, ◌≢◌, ℕ, zero, suc, ◌<◌, ◌≤◌, ◌+◌, Bool, true, false, List, [], ◌∷◌, ◌++◌, length, get_or, set, Contains, map, Result, Ok, Err, OnOk, OnErr, refl, sym, ap, subst, ◌∙◌, inl, inr, arith}
use Rattle.std.specs.Prelude.{◌==◌, cond}
use Rattle.std.specs.List.{filter}
use Rattle.std.proofs.lemmas.List.{length-set, length-append, map-set, get_or-set_other}
use Rattle.std.proofs.lemmas.List.Elements.{Contains-append_cases, Contains-append_left, Contains-append_right, filter-append}
use Rattle.std.proofs.lemmas.Bool.Decides.{Decides-eqb}
use Rattle.std.specs.BTreeSet.{insert_key}
use Rattle.kr_config.specs.Nexts.{name_cmp}
use Rattle.kr_judge.specs.declared.pair.Pair.{Pair}
use Rattle.kr_judge.specs.inner.Indexes.{kept_paths}
use Rattle.kr_judge.specs.inner.Places.{paths_at, is_listed, AreFree, AreNeeded}
use Rattle.kr_config.proofs.ListParts.{here, cases}
use Rattle.kr_judge.proofs.Pairs.{paths_here}
use Rattle.kr_judge.proofs.Indexed.{key_kept}

abbrev count : List Pair → ℕ
count pairs = length (filter (λ pair. pair.listed) pairs)

count_all : (pairs : List Pair) → count pairs ≤ length pairs
count_all [] = omega arith
count_all (p ∷ ps) = by p.listed (count_all ps)
  where
    by : (v : Bool) → count ps ≤ length ps → length (cond v (p ∷ filter (λ pair. pair.listed) ps) (filter (λ pair. pair.listed) ps)) ≤ length (p ∷ ps)
    by true h = omega (arith, h)
    by false h = omega (arith, h)

count_less : (pairs : List Pair) (at : ℕ) → at < length pairs → is_listed pairs at ≡ false → count pairs < length pairs
count_less [] at h e = absurd (omega (arith, h))
count_less (p ∷ ps) zero h e = omega (arith, count_all ps, ap (λ (v : Bool). length (cond v (p ∷ filter (λ pair. pair.listed) ps) (filter (λ pair. pair.listed) ps))) e)
count_less (p ∷ ps) (suc at) h e = by p.listed (count_less ps at (omega (arith, h)) e)
  where
    by : (v : Bool) → count ps < length ps → length (cond v (p ∷ filter (λ pair. pair.listed) ps) (filter (λ pair. pair.listed) ps)) < length (p ∷ ps)
    by true k = omega (arith, k)
    by false k = omega (arith, k)

-- a number for whether one is listed
abbrev one : Bool → ℕ
one true = 1
one false = 0

count_here : (p : Pair) (ps : List Pair) → count (p ∷ ps) ≡ one p.listed + count ps
count_here p ps = by p.listed
  where
    by : (v : Bool) → length (cond v (p ∷ filter (λ pair. pair.listed) ps) (filter (λ pair. pair.listed) ps)) ≡ one v + count ps
    by true = omega arith
    by false = omega arith

count_set : (pairs : List Pair) (at : ℕ) (new : Pair) → at < length pairs → count (set pairs at new) + one (is_listed pairs at) ≡ count pairs + one new.listed
count_set [] at new h = absurd (omega (arith, h))
count_set (p ∷ ps) zero new h = omega (arith, count_here p ps, count_here new ps)
count_set (p ∷ ps) (suc at) new h = omega (arith, count_here p ps, count_here p (set ps at new), count_set ps at new (omega (arith, h)))

listed_set : (pairs : List Pair) (at : ℕ) (new : Pair) → at < length pairs → is_listed (set pairs at new) at ≡ new.listed
listed_set [] at new h = absurd (omega (arith, h))
listed_set (p ∷ ps) zero new h = refl
listed_set (p ∷ ps) (suc at) new h = listed_set ps at new (omega (arith, h))

paths_set : (pairs : List Pair) (at : ℕ) (new : Pair) → at < length pairs → paths_at (set pairs at new) at ≡ new.paths
paths_set [] at new h = absurd (omega (arith, h))
paths_set (p ∷ ps) zero new h = refl
paths_set (p ∷ ps) (suc at) new h = paths_set ps at new (omega (arith, h))

other_number : (at place : ℕ) → (at == place) ≡ false → place ≢ at
other_number at place s e = (let clash : true ≡ false = sym ((Decides-eqb at place).1 (sym e)) ∙ s in cc)

listed_other : (pairs : List Pair) (at place : ℕ) (new : Pair) → (at == place) ≡ false → is_listed (set pairs at new) place ≡ is_listed pairs place
listed_other pairs at place new s = ap (λ l. get_or l place false) (map-set (λ (p : Pair). p.listed) pairs at new)
    ∙ get_or-set_other (map (λ (p : Pair). p.listed) pairs) at place new.listed false (other_number at place s)

paths_other : (pairs : List Pair) (at place : ℕ) (new : Pair) → (at == place) ≡ false → paths_at (set pairs at new) place ≡ paths_at pairs place
paths_other pairs at place new s = ap (λ l. get_or l place []) (map-set (λ (p : Pair). p.paths) pairs at new)
    ∙ get_or-set_other (kept_paths pairs) at place new.paths [] (other_number at place s)

number_is : (a b : ℕ) → (a == b) ≡ true → a ≡ b
number_is a b h = (Decides-eqb a b).0 h

pub listed_here : (pairs : List Pair) (at : ℕ) (own : Pair) → at < length pairs → own ≡ get_or pairs at own → is_listed pairs at ≡ own.listed
listed_here [] at own h is = absurd (omega (arith, h))
listed_here (p ∷ ps) zero own h is = ap (λ (q : Pair). q.listed) (sym is)
listed_here (p ∷ ps) (suc at) own h is = listed_here ps at own (omega (arith, h)) is

pub none_free : (free : List ℕ) (pairs : List Pair) → free ≡ [] → pairs ≡ [] → AreFree free pairs
none_free free pairs f p = subst (λ l. AreFree l pairs) (sym f) (subst (AreFree []) (sym p) (record {
  within = λ place m. absurd (omega (arith, m.1));
  few = omega arith;
  empties = λ place h e. absurd (omega (arith, h));
  listed = λ place e. cc;
}))

-- a pair is changed, and stays listed or not
pub free_set : (free : List ℕ) (pairs : List Pair) (at : ℕ) (new : Pair) → AreFree free pairs → at < length pairs → new.listed ≡ is_listed pairs at → (new.paths ≡ [] → new.listed ≡ true) → AreFree free (set pairs at new)
free_set free pairs at new before h same empty = record {
  within = λ place m. (let k : place < length pairs = before.within place m in omega (arith, k, length-set pairs at new));
  few = omega (arith, before.few, count_set pairs at new h, ap one same);
  empties = λ place k e. empties_in place k e (at == place) refl;
  listed = λ place e. before.listed place (listed_in place (at == place) refl ∙ e);
}
  where
    empties_in : (place : ℕ) → place < length (set pairs at new) → paths_at (set pairs at new) place ≡ [] → (v : Bool) → (at == place) ≡ v → is_listed (set pairs at new) place ≡ true
    empties_in place k e true s = subst (λ n. is_listed (set pairs at new) n ≡ true) (number_is at place s)
        (listed_set pairs at new h ∙ empty (sym (paths_set pairs at new h) ∙ ap (paths_at (set pairs at new)) (number_is at place s) ∙ e))
    empties_in place k e false s = listed_other pairs at place new s ∙ before.empties place (omega (arith, k, length-set pairs at new)) (sym (paths_other pairs at place new s) ∙ e)

    listed_in : (place : ℕ) (v : Bool) → (at == place) ≡ v → is_listed pairs place ≡ is_listed (set pairs at new) place
    listed_in place true s = subst (λ n. is_listed pairs n ≡ is_listed (set pairs at new) n) (number_is at place s) (sym same ∙ sym (listed_set pairs at new h))
    listed_in place false s = sym (listed_other pairs at place new s)

-- a pair is listed now
pub free_listed : (free : List ℕ) (pairs : List Pair) (at : ℕ) (new : Pair) → AreFree free pairs → at < length pairs → is_listed pairs at ≡ false → new.listed ≡ true → AreFree (free ++ at ∷ []) (set pairs at new)
free_listed free pairs at new before h was now = record {
  within = λ place m. elim (Contains-append_cases free (at ∷ []) place m) [
    | inl k ↦ (let l : place < length pairs = before.within place k in omega (arith, l, length-set pairs at new))
    | inr k ↦ elim (cases at place [] k) [ inl q ↦ omega (arith, h, length-set pairs at new, q) | inr n ↦ absurd (omega (arith, n.1)) ]
  ];
  few = omega (arith, before.few, count_set pairs at new h, ap one was, ap one now, length-append free (at ∷ []));
  empties = λ place k e. empties_in place k e (at == place) refl;
  listed = λ place e. listed_in place e (at == place) refl;
}
  where
    empties_in : (place : ℕ) → place < length (set pairs at new) → paths_at (set pairs at new) place ≡ [] → (v : Bool) → (at == place) ≡ v → is_listed (set pairs at new) place ≡ true
    empties_in place k e true s = subst (λ n. is_listed (set pairs at new) n ≡ true) (number_is at place s) (listed_set pairs at new h ∙ now)
    empties_in place k e false s = listed_other pairs at place new s ∙ before.empties place (omega (arith, k, length-set pairs at new)) (sym (paths_other pairs at place new s) ∙ e)

    listed_in : (place : ℕ) → is_listed (set pairs at new) place ≡ true → (v : Bool) → (at == place) ≡ v → Contains (free ++ at ∷ []) place
    listed_in place e true s = subst (Contains (free ++ at ∷ [])) (number_is at place s) (Contains-append_right free (at ∷ []) at (here at []))
    listed_in place e false s = Contains-append_left free (at ∷ []) place (before.listed place (sym (listed_other pairs at place new s) ∙ e))

-- there is room for it
pub free_room : (free : List ℕ) (pairs : List Pair) (at : ℕ) → AreFree free pairs → at < length pairs → is_listed pairs at ≡ false → length free < length pairs
free_room free pairs at before h was = (let k : count pairs < length pairs = count_less pairs at h was in omega (arith, k, before.few))

pub free_fits : (free : List ℕ) (pairs : List Pair) → AreFree free pairs → length free ≤ length pairs
free_fits free pairs before = omega (arith, count_all pairs, before.few)

-- a listed pair that has a path is no longer listed
pub free_left : (free rest : List ℕ) (pairs : List Pair) (at : ℕ) (new : Pair) → AreFree free pairs → free ≡ rest ++ at ∷ [] → new.listed ≡ false → new.paths ≢ [] → AreFree rest (set pairs at new)
free_left free rest pairs at new before is now some = record {
  within = λ place m. (let k : place < length pairs = before.within place (subst (λ l. Contains l place) (sym is) (Contains-append_left rest (at ∷ []) place m)) in omega (arith, k, length-set pairs at new));
  few = by (is_listed pairs at) (count_set pairs at new h);
  empties = λ place k e. empties_in place k e (at == place) refl;
  listed = λ place e. listed_in place e (at == place) refl;
}
  where
    h : at < length pairs
    h = before.within at (subst (λ l. Contains l at) (sym is) (Contains-append_right rest (at ∷ []) at (here at [])))

    by : (v : Bool) → count (set pairs at new) + one v ≡ count pairs + one new.listed → length rest ≤ count (set pairs at new)
    by true e = omega (arith, e, before.few, ap length is, length-append rest (at ∷ []), ap one now)
    by false e = omega (arith, e, before.few, ap length is, length-append rest (at ∷ []), ap one now)

    empties_in : (place : ℕ) → place < length (set pairs at new) → paths_at (set pairs at new) place ≡ [] → (v : Bool) → (at == place) ≡ v → is_listed (set pairs at new) place ≡ true
    empties_in place k e true s = absurd (some (sym (paths_set pairs at new h) ∙ ap (paths_at (set pairs at new)) (number_is at place s) ∙ e))
    empties_in place k e false s = listed_other pairs at place new s ∙ before.empties place (omega (arith, k, length-set pairs at new)) (sym (paths_other pairs at place new s) ∙ e)

    listed_in : (place : ℕ) → is_listed (set pairs at new) place ≡ true → (v : Bool) → (at == place) ≡ v → Contains rest place
    listed_in place e true s = absurd (let clash : false ≡ true = sym now ∙ sym (listed_set pairs at new h) ∙ ap (is_listed (set pairs at new)) (number_is at place s) ∙ e in cc)
    listed_in place e false s = elim (Contains-append_cases rest (at ∷ []) place (subst (λ l. Contains l place) is (before.listed place (sym (listed_other pairs at place new s) ∙ e)))) [
      | inl m ↦ m
      | inr m ↦ elim (cases at place [] m) [ inl q ↦ absurd (let clash : true ≡ false = sym ((Decides-eqb at place).1 q) ∙ s in cc) | inr n ↦ absurd (omega (arith, n.1)) ]
    ]

-- one pair more
pub free_pushed : (free : List ℕ) (pairs : List Pair) (new : Pair) → AreFree free pairs → new.listed ≡ true → AreFree (free ++ length pairs ∷ []) (pairs ++ new ∷ [])
free_pushed free pairs new before now = record {
  within = λ place m. elim (Contains-append_cases free (length pairs ∷ []) place m) [
    | inl k ↦ (let l : place < length pairs = before.within place k in omega (arith, l, length-append pairs (new ∷ [])))
    | inr k ↦ elim (cases (length pairs) place [] k) [ inl q ↦ omega (arith, length-append pairs (new ∷ []), q) | inr n ↦ absurd (omega (arith, n.1)) ]
  ];
  few = omega (arith, before.few, length-append free (length pairs ∷ []), ap length (filter-append (λ (p : Pair). p.listed) pairs (new ∷ [])), length-append (filter (λ (p : Pair). p.listed) pairs) (filter (λ (p : Pair). p.listed) (new ∷ [])), count_here new [], ap one now);
  empties = λ place k e. empties_in pairs before.empties place (omega (arith, k, length-append pairs (new ∷ []))) e;
  listed = λ place e. listed_in place e;
}
  where
    empties_in : (ps : List Pair) → ((place : ℕ) → place < length ps → paths_at ps place ≡ [] → is_listed ps place ≡ true) → (place : ℕ) → place ≤ length ps → paths_at (ps ++ new ∷ []) place ≡ [] → is_listed (ps ++ new ∷ []) place ≡ true
    empties_in [] all zero k e = now
    empties_in [] all (suc place) k e = absurd (omega (arith, k))
    empties_in (p ∷ ps) all zero k e = all zero (omega arith) e
    empties_in (p ∷ ps) all (suc place) k e = empties_in ps (λ i j. all (suc i) (omega (arith, j))) place (omega (arith, k)) e

    earlier : (ps : List Pair) (place : ℕ) → is_listed (ps ++ new ∷ []) place ≡ true → place ≢ length ps → is_listed ps place ≡ true
    earlier [] zero e other = absurd (other refl)
    earlier [] (suc place) e other = cc
    earlier (p ∷ ps) zero e other = e
    earlier (p ∷ ps) (suc place) e other = earlier ps place e (λ q. other (ap suc q))

    listed_in : (place : ℕ) → is_listed (pairs ++ new ∷ []) place ≡ true → Contains (free ++ length pairs ∷ []) place
    listed_in place e = by (length pairs == place) refl
      where
        by : (v : Bool) → (length pairs == place) ≡ v → Contains (free ++ length pairs ∷ []) place
        by true s = subst (Contains (free ++ length pairs ∷ [])) (number_is (length pairs) place s) (Contains-append_right free (length pairs ∷ []) (length pairs) (here (length pairs) []))
        by false s = Contains-append_left free (length pairs ∷ []) place (before.listed place (earlier pairs place e (other_number (length pairs) place s)))

-- where none is listed each has a path
pub free_none : (free : List ℕ) (pairs : List Pair) → AreFree free pairs → free ≡ [] → AreNeeded pairs
free_none free pairs before none place h e = absurd (let m : Contains [] place = subst (λ l. Contains l place) none (before.listed place (before.empties place h e)) in omega (arith, m.1))

-- a path is put to a pair's, or memory is wanted
pub put_free : {U F : Type 0} (result : Result U F) (free : List ℕ) (pairs : List Pair) (at : ℕ) (own new : Pair) (path : List ℕ) → AreFree free pairs → at < length pairs → own ≡ get_or pairs at own → new.listed ≡ own.listed
    → OnOk result (new.paths ≡ insert_key name_cmp own.paths path) → OnErr result (new.paths ≡ own.paths) → AreFree free (set pairs at new)
put_free {U} {F} result free pairs at own new path before h is listed put same = free_set free pairs at new before h (listed ∙ sym (listed_here pairs at own h is))
    (λ e. listed ∙ sym (listed_here pairs at own h is) ∙ before.empties at h (paths_here pairs at own h is ∙ was_empty result put same e))
  where
    was_empty : (r : Result U F) → OnOk r (new.paths ≡ insert_key name_cmp own.paths path) → OnErr r (new.paths ≡ own.paths) → new.paths ≡ [] → own.paths ≡ []
    was_empty (Ok x) k l e = key_kept own.paths path (sym k ∙ e)
    was_empty (Err x) k l e = sym l ∙ e

-- the last place
pub free_within : (free rest : List ℕ) (pairs : List Pair) (place : ℕ) → AreFree free pairs → free ≡ rest ++ place ∷ [] → place < length pairs
free_within free rest pairs place before is = before.within place (subst (λ l. Contains l place) (sym is) (Contains-append_right rest (place ∷ []) place (here place [])))

pub free_again : (free rest all : List ℕ) (pairs : List Pair) (place : ℕ) → AreFree free pairs → free ≡ rest ++ place ∷ [] → all ≡ rest ++ place ∷ [] → AreFree all pairs
free_again free rest all pairs place before is put = subst (λ l. AreFree l pairs) (is ∙ sym put) before

pub empty_at : (pairs : List Pair) (place : ℕ) (own : Pair) → place < length pairs → own ≡ get_or pairs place own → own.paths ≡ [] → paths_at pairs place ≡ []
empty_at pairs place own h is e = paths_here pairs place own h is ∙ e

pub no_paths : (paths : List (List ℕ)) → length paths ≡ 0 → paths ≡ []
no_paths [] e = refl
no_paths (p ∷ ps) e = absurd (omega (arith, e))

pub some_paths : (paths : List (List ℕ)) → length paths ≢ 0 → paths ≢ []
some_paths paths apart e = apart (ap length e)

-- a pair that is no longer listed
pub unlisted : (old new : Pair) → new ≡ record old { listed = false } → (new.listed ≡ false) × (new.resource ≡ old.resource) × (new.who ≡ old.who) × (new.paths ≡ old.paths)
unlisted old new e = (ap (λ (p : Pair). p.listed) e, ap (λ (p : Pair). p.resource) e, ap (λ (p : Pair). p.who) e, ap (λ (p : Pair). p.paths) e)

one_pair : (pairs : List Pair) (at : ℕ) (a b : Pair) → at < length pairs → a ≡ get_or pairs at a → b ≡ get_or pairs at b → a ≡ b
one_pair [] at a b h is own = absurd (omega (arith, h))
one_pair (p ∷ ps) zero a b h is own = is ∙ sym own
one_pair (p ∷ ps) (suc at) a b h is own = one_pair ps at a b (omega (arith, h)) is own

-- its paths, of which it had some
pub still_some : (pairs : List Pair) (at : ℕ) (a b new : Pair) → at < length pairs → a ≡ get_or pairs at a → b ≡ get_or pairs at b → a.paths ≢ [] → new.paths ≡ b.paths → new.paths ≢ []
still_some pairs at a b new h is own some same none = some (ap (λ (p : Pair). p.paths) (one_pair pairs at a b h is own) ∙ sym same ∙ none)

pub none_left : (places : List ℕ) → length places ≡ 0 → places ≡ []
none_left [] e = refl
none_left (p ∷ ps) e = absurd (omega (arith, e))

pub free_added : (free rest : List ℕ) (pairs all : List Pair) (pair : Pair) (place : ℕ) → AreFree free pairs → pair.listed ≡ true → place ≡ length pairs → rest ≡ free ++ place ∷ [] → all ≡ pairs ++ pair ∷ [] → AreFree rest all
free_added free rest pairs all pair place before now at is put = subst (λ l. AreFree l all) (sym (is ∙ ap (λ n. free ++ n ∷ []) at)) (subst (AreFree (free ++ length pairs ∷ [])) (sym put) (free_pushed free pairs pair before now))

pub free_given : (free : List ℕ) (pairs all : List Pair) (place : ℕ) (pair : Pair) → AreFree free pairs → place < length pairs → paths_at pairs place ≡ [] → pair.listed ≡ true → all ≡ set pairs place pair → AreFree free all
free_given free pairs all place pair before h empty now put = subst (AreFree free) (sym put) (free_set free pairs place pair before h (now ∙ sym (before.empties place h empty)) (λ e. now))
