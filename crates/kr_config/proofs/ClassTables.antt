-- What the table of classes holds, and the law that it keeps.
use Rattle.std.proofs.Common.{◌≡◌, ℕ, zero, suc, ◌<◌, ◌↔◌, ⊎_elim, Bool, true, false, List, [], ◌∷◌}
use Rattle.std.proofs.Common.{◌++◌, length, get_or, refl, sym, ◌∙◌, ap, subst, arith, Contains}
use Rattle.std.specs.Prelude.{if◌then◌else◌, ◌||◌}
use Rattle.std.specs.List.{list_any, flat_map}
use Rattle.std.specs.List.Sorted.{IsStrictlySortedBy}
use Rattle.std.specs.Str.{bytes_eq}
use Rattle.std.proofs.lemmas.List.Folds.{list_any_at, Any-from_list_any}
use Rattle.std.proofs.lemmas.List.Elements.{Contains-append_left, Contains-append_right}
use Rattle.std.proofs.lemmas.List.Elements.{Contains-append_cases}
use Rattle.std.proofs.lemmas.Grind.{flat_map-append}
use Rattle.std.proofs.lemmas.Bool.{false≢true}
use Rattle.kr_config.specs.declared.pattern.Pattern.{Pattern}
use Rattle.kr_config.specs.declared.pattern.Pattern.TheVariants as pattern
use Rattle.kr_config.specs.declared.settings.Entry.{Entry}
use Rattle.kr_config.specs.declared.class.Class.{Class}
use Rattle.kr_config.specs.declared.class.Class.TheVariants.{Exact, Group, Rest}
use Rattle.kr_config.specs.Patterns.{resource_group, matches, covers_group, covers_rest}
use Rattle.kr_config.specs.Kept.{ConfigEntry, rows_of}
use Rattle.kr_config.specs.Lists.{first_list, list_of, class_list}
use Rattle.kr_config.specs.Classes.{class_cmp, class_made, classes_made, classes_in, IsTableOf}
use Rattle.kr_config.specs.Classes.{class_in, is_exact, is_group, is_rest}
use Rattle.kr_config.specs.inner.ClassTables.{or_rest}
use Rattle.kr_config.proofs.Places.{rest_is}

none_in_nil : {X : Type 0} (x : X) → Contains [] x → ⊥
none_in_nil x h = absurd (omega (arith, h.1))

-- the table of no settings
pub table_new : IsTableOf [] (Rest ∷ [])
unfolding IsStrictlySortedBy
table_new = record { ascends = (tt, tt); members = λ class. (λ h. h, λ h. h) }

-- what one item makes is among what all make
in_flat : {X Y : Type 0} (f : X → List Y) (xs : List X) (x : X) (y : Y) → Contains xs x
    → Contains (f x) y → Contains (flat_map f xs) y
in_flat {X} {Y} f [] x y h m = absurd (omega (arith, h.1))
in_flat {X} {Y} f (z ∷ xs) x y h m = at_place (λ there. in_flat f xs x y there m) h.0 h.1 h.2
  where
    at_place : (Contains xs x → Contains (flat_map f xs) y) → (k : ℕ) → k < length (z ∷ xs)
        → get_or (z ∷ xs) k x ≡ x → Contains (flat_map f (z ∷ xs)) y
    at_place rest zero l is = Contains-append_left (f z) (flat_map f xs) y
        (subst (λ w. Contains (f w) y) (sym is) m)
    at_place rest (suc k) l is =
        Contains-append_right (f z) (flat_map f xs) y (rest (k, omega (arith, l), is))

-- one more settings
pub table_added : (added : List (List ConfigEntry)) (rows : List ConfigEntry) (old fresh new : List Class)
    → IsTableOf added old → fresh ≡ classes_in rows
    → IsStrictlySortedBy class_cmp new
    → ((class : Class) → Contains new class ↔ Contains (old ++ fresh) class)
    → IsTableOf (added ++ rows ∷ []) new
table_added added rows old fresh new table is ascends same = record {
  ascends = ascends;
  members = λ class. (to class, from class);
}
  where
    whole : Rest ∷ flat_map classes_in (added ++ rows ∷ []) ≡ (Rest ∷ flat_map classes_in added)
        ++ (classes_in rows ++ [])
    whole = ap (λ l. Rest ∷ l) (flat_map-append classes_in added (rows ∷ []))

    to : (class : Class) → Contains new class
        → Contains (Rest ∷ flat_map classes_in (added ++ rows ∷ [])) class
    to class h = subst (λ l. Contains l class) (sym whole) (⊎_elim
        (λ o. Contains-append_left (Rest ∷ flat_map classes_in added) (classes_in rows ++ []) class
        ((table.members class).0 o))
        (λ f. Contains-append_right (Rest ∷ flat_map classes_in added) (classes_in rows ++ []) class
        (Contains-append_left (classes_in rows) [] class (subst (λ l. Contains l class) is f)))
        (Contains-append_cases old fresh class ((same class).0 h)))

    from : (class : Class) → Contains (Rest ∷ flat_map classes_in (added ++ rows ∷ [])) class
        → Contains new class
    from class h = (same class).1 (⊎_elim
        (λ o. Contains-append_left old fresh class ((table.members class).1 o))
        (λ f. ⊎_elim
        (λ g. Contains-append_right old fresh class (subst (λ l. Contains l class) (sym is) g))
        (λ n. absurd (none_in_nil class n))
        (Contains-append_cases (classes_in rows) [] class f))
        (Contains-append_cases (Rest ∷ flat_map classes_in added) (classes_in rows ++ []) class
        (subst (λ l. Contains l class) whole h)))

in_table : (classes : List Class) → list_any is_rest classes ≡ true → Contains classes Rest
in_table classes there =
    let some = Any-from_list_any is_rest classes there in
    subst (Contains classes) (rest_is some.1 some.4) (some.0, some.2, some.3)

-- the rest among what is added changes nothing
pub rest_again : (items fresh new : List Class) → list_any is_rest (or_rest items) ≡ true
    → ((class : Class) → Contains new class ↔ Contains (items ++ Rest ∷ fresh) class)
    → (class : Class) → Contains new class ↔ Contains (or_rest items ++ fresh) class
rest_again [] fresh new there same = same
rest_again (c ∷ cs) fresh new there same = λ class. (
  λ h. ⊎_elim
      (λ o. Contains-append_left (c ∷ cs) fresh class o)
      (λ f. ⊎_elim
      (λ r. Contains-append_left (c ∷ cs) fresh class
      (subst (Contains (c ∷ cs)) (single class r) (in_table (c ∷ cs) there)))
      (λ g. Contains-append_right (c ∷ cs) fresh class g)
      (Contains-append_cases (Rest ∷ []) fresh class f))
      (Contains-append_cases (c ∷ cs) (Rest ∷ fresh) class ((same class).0 h)),
  λ h. (same class).1 (⊎_elim
      (λ o. Contains-append_left (c ∷ cs) (Rest ∷ fresh) class o)
      (λ g. Contains-append_right (c ∷ cs) (Rest ∷ fresh) class
      (Contains-append_right (Rest ∷ []) fresh class g))
      (Contains-append_cases (c ∷ cs) fresh class h)),
)
  where
    at_zero : (class : Class) (k : ℕ) → k < 1 → get_or (Rest ∷ []) k class ≡ class → Rest ≡ class
    at_zero class zero l is = is
    at_zero class (suc k) l is = absurd (omega (arith, l))

    single : (class : Class) → Contains (Rest ∷ []) class → Rest ≡ class
    single class r = at_zero class r.0 r.1 r.2

-- the rest and the classes of entries stand behind those of a table, and all of it is put in order
pub with_fresh : (items new : List Class) {appended fresh : List Class} {lent entries : List Entry}
    → appended ≡ items ++ fresh → fresh ≡ Rest ∷ classes_in (rows_of lent) → lent ≡ entries
    → list_any is_rest (or_rest items) ≡ true
    → ((class : Class) → Contains new class ↔ Contains appended class)
    → (class : Class) → Contains new class
    ↔ Contains (or_rest items ++ classes_in (rows_of entries)) class
with_fresh items new {appended} {fresh} {lent} {entries} is made same there members =
    let whole : appended ≡ items ++ Rest ∷ classes_in (rows_of entries) =
    is ∙ ap (λ l. items ++ l) (made ∙ ap (λ l. Rest ∷ classes_in (rows_of l)) same) in
    rest_again items (classes_in (rows_of entries)) new there
    (subst (λ l. (class : Class) → Contains new class ↔ Contains l class) whole members)

-- a list with the rest in it isn't empty, and keeps it
pub rest_kept : (old fresh new : List Class) → list_any is_rest old ≡ true
    → ((class : Class) → Contains new class ↔ Contains (old ++ fresh) class)
    → (list_any is_rest new ≡ true) × (or_rest new ≡ new)
rest_kept old fresh new there same =
    let some = Any-from_list_any is_rest old there in
    let kept = (same some.1).1 (Contains-append_left old fresh some.1 (some.0, some.2, some.3)) in (
      list_any_at is_rest new kept.0 some.1 kept.1 (ap is_rest kept.2 ∙ some.4),
      full new (some.1) kept,
    )
  where
    full : (l : List Class) (x : Class) → Contains l x → or_rest l ≡ l
    full [] x h = absurd (none_in_nil x h)
    full (y ∷ l) x h = refl

-- a class that no search finds isn't there
not_found : (test : Class → Bool) (classes : List Class) (class : Class)
    → list_any test classes ≡ false → Contains classes class → test class ≡ false
not_found test classes class none h = by (test class) refl
  where
    by : (b : Bool) → test class ≡ b → test class ≡ false
    by true t = absurd (false≢true
        (sym none ∙ list_any_at test classes h.0 class h.1 (ap test h.2 ∙ t)))
    by false t = t

not_exact : (classes : List Class) (resource text : List ℕ)
    → list_any (is_exact resource) classes ≡ false → Contains classes (Exact text)
    → bytes_eq text resource ≡ false
not_exact classes resource text = not_found (is_exact resource) classes (Exact text)

not_group : (classes : List Class) (group own : List ℕ) → list_any (is_group group) classes ≡ false
    → Contains classes (Group own) → bytes_eq own group ≡ false
not_group classes group own = not_found (is_group group) classes (Group own)

-- two tests that answer alike at each pattern whose class the table has give one list
same_any : (classes : List Class) (f g : Pattern → Bool)
    → ((p : Pattern) → ((class : Class) → Contains (class_made p) class → Contains classes class)
    → f p ≡ g p)
    → (ps : List Pattern) → ((class : Class) → Contains (classes_made ps) class
    → Contains classes class) → list_any f ps ≡ list_any g ps
same_any classes f g each [] known = refl
same_any classes f g each (p ∷ ps) known =
    let head : f p ≡ g p = each p
    (λ class h. known class (Contains-append_left (class_made p) (classes_made ps) class h)) in
    let rest : list_any f ps ≡ list_any g ps =
    same_any classes f g each ps
    (λ class h. known class (Contains-append_right (class_made p) (classes_made ps) class h)) in
    ap (λ b. b || list_any f ps) head ∙ ap (λ b. g p || b) rest

same_list : (classes : List Class) (f g : Pattern → Bool)
    → ((p : Pattern) → ((class : Class) → Contains (class_made p) class → Contains classes class)
    → f p ≡ g p)
    → (rows : List ConfigEntry) → ((class : Class) → Contains (classes_in rows) class
    → Contains classes class) → first_list f rows ≡ first_list g rows
same_list classes f g each [] known = refl
same_list classes f g each (row ∷ rows) known =
    ap (λ b. if b then row.providers else first_list f rows)
    (same_any classes f g each row.patterns
    (λ class h. known class (Contains-append_left (classes_made row.patterns) (classes_in rows)
    class h)))
    ∙ ap (λ l. if list_any g row.patterns then row.providers else l)
    (same_list classes f g each rows
    (λ class h. known class (Contains-append_right (classes_made row.patterns) (classes_in rows)
    class h)))

pub one : {X : Type 0} (x : X) → Contains (x ∷ []) x
one x = (0, omega arith, refl)

group_agrees : (classes : List Class) (resource : List ℕ)
    → list_any (is_exact resource) classes ≡ false
    → (p : Pattern) → ((class : Class) → Contains (class_made p) class → Contains classes class)
    → matches p resource ≡ covers_group p (resource_group resource)
group_agrees classes resource none (pattern.Exact text) known =
    not_exact classes resource text none (known (Exact text) (one (Exact text)))
group_agrees classes resource none (pattern.Group group) known = refl
group_agrees classes resource none pattern.All known = refl

rest_agrees : (classes : List Class) (resource : List ℕ)
    → list_any (is_exact resource) classes ≡ false
    → list_any (is_group (resource_group resource)) classes ≡ false
    → (p : Pattern) → ((class : Class) → Contains (class_made p) class → Contains classes class)
    → matches p resource ≡ covers_rest p
rest_agrees classes resource none other (pattern.Exact text) known =
    not_exact classes resource text none (known (Exact text) (one (Exact text)))
rest_agrees classes resource none other (pattern.Group group) known =
    not_group classes (resource_group resource) group other (known (Group group) (one (Group group)))
rest_agrees classes resource none other pattern.All known = refl

pub known_class : (added : List (List ConfigEntry)) (classes : List Class) (rows : List ConfigEntry)
    → IsTableOf added classes → Contains added rows → (class : Class)
    → Contains (classes_in rows) class → Contains classes class
known_class added classes rows table there class h =
    (table.members class).1 (Contains-append_right (Rest ∷ []) (flat_map classes_in added) class
    (in_flat classes_in added rows class there h))

-- a group that no pattern speaks of has the list of the rest
no_group : (classes : List Class) (group : List ℕ) → list_any (is_group group) classes ≡ false
    → (p : Pattern) → ((class : Class) → Contains (class_made p) class → Contains classes class)
    → covers_group p group ≡ covers_rest p
no_group classes group none (pattern.Exact text) known = refl
no_group classes group none (pattern.Group own) known =
    not_group classes group own none (known (Group own) (one (Group own)))
no_group classes group none pattern.All known = refl

pub group_narrows : (classes : List Class) (group : List ℕ)
    → list_any (is_group group) classes ≡ false → (rows : List ConfigEntry)
    → ((class : Class) → Contains (classes_in rows) class → Contains classes class)
    → class_list rows (Group group) ≡ class_list rows Rest
group_narrows classes group none rows known =
    same_list classes (λ p. covers_group p group) covers_rest (no_group classes group none) rows
    known

-- an exact class that no pattern is of has the list of its group
pub exact_widens : (classes : List Class) (resource : List ℕ)
    → list_any (is_exact resource) classes ≡ false → (rows : List ConfigEntry)
    → ((class : Class) → Contains (classes_in rows) class → Contains classes class)
    → list_of rows resource ≡ class_list rows (Group (resource_group resource))
exact_widens classes resource none rows known =
    same_list classes (λ p. matches p resource) (λ p. covers_group p (resource_group resource))
    (group_agrees classes resource none) rows known

-- the list of a resource is the list of its class
pub law_of_classes : (added : List (List ConfigEntry)) (classes : List Class) (rows : List ConfigEntry)
    (resource : List ℕ) → IsTableOf added classes → Contains added rows
    → list_of rows resource ≡ class_list rows (class_in classes resource)
unfolding class_in
law_of_classes added classes rows resource table there =
    by (list_any (is_exact resource) classes) (list_any (is_group (resource_group resource)) classes) refl
    refl
  where
    by : (b c : Bool) → list_any (is_exact resource) classes ≡ b
        → list_any (is_group (resource_group resource)) classes ≡ c
        → list_of rows resource ≡ class_list rows
        (if b then Exact resource else if c then Group (resource_group resource) else Rest)
    by true c h k = refl
    by false true h k = same_list classes (λ p. matches p resource)
        (λ p. covers_group p (resource_group resource)) (group_agrees classes resource h) rows
        (known_class added classes rows table there)
    by false false h k = same_list classes (λ p. matches p resource) covers_rest
        (rest_agrees classes resource h k) rows (known_class added classes rows table there)
