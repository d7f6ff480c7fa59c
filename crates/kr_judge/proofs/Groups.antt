-- The places of each resource's pairs.
use Rattle.std.proofs.Common.{◌≡◌, ◌≢◌, ℕ, ◌<◌, ◌≤◌, ◌+◌, Bool, true, false, List, [], ◌∷◌, ◌++◌, length, get_or, set, take, Option, None, Some, Contains, refl, sym, ap, subst, ◌∙◌, inl, inr, arith}
use Rattle.std.specs.Prelude.{◌==◌, cond, not, position}
use Rattle.std.specs.List.{filter}
use Rattle.std.specs.Str.{bytes_eq}
use Rattle.std.specs.Ordering.{match_ordering, is_eq}
use Rattle.std.specs.declared.cmp.Ordering.{Ordering}
use Rattle.std.specs.declared.cmp.Ordering.TheVariants.{Less, Equal, Greater}
use Rattle.std.specs.Map.{remove_entry}
use Rattle.std.specs.BTreeMap.{insert_entry, is_at}
use Rattle.std.proofs.lemmas.List.{length-map, length-set, length-append, map-set, get_or-set_other, take_all, get_or_default}
use Rattle.std.proofs.lemmas.List.Elements.{Contains-append_cases, Contains-append_left, Contains-append_right}
use Rattle.std.proofs.lemmas.Map.Text.{is_eq-slice_cmp}
use Rattle.std.proofs.lemmas.Slice.Eq.{bytes_eq-Decides}
use Rattle.std.proofs.lemmas.Bool.{cases_lt}
use Rattle.std.proofs.lemmas.Bool.Decides.{Decides-eqb}
use Rattle.kr_config.specs.declared.who.Who.{Who}
use Rattle.kr_config.specs.declared.who.Who.TheVariants.{Identity}
use Rattle.kr_config.specs.Nexts.{name_cmp}
use Rattle.kr_judge.specs.declared.pair.Pair.{Pair}
use Rattle.kr_judge.specs.inner.Indexes.{AreApart, AreAsBefore, is_pair, labels_of, kept_paths}
use Rattle.kr_judge.specs.inner.Places.{Groups, group_at, all_or_none, places_at, label_at, IsPutAt, AreLeftAt, MovesTo, AreWithin, AreGrouped, AreOnce, AreNeeded, GrowsFor, paths_at}
use Rattle.kr_config.proofs.ListParts.{here, there, cases}
use Rattle.kr_judge.proofs.Lists.{head_is}
use Rattle.kr_judge.proofs.Parts.{take_at_more}
use Rattle.kr_judge.proofs.Entries.{put_found}
use Rattle.kr_judge.proofs.Needs.{equal_paths}
use Rattle.kr_judge.proofs.Pairs.{label_here, label_set, label_last, label_put, replaced}
use Rattle.kr_judge.proofs.Scans.{found_place, no_place, label_is, is_label, label_before, labels_fit, apart_set, apart_push}

-- names that are one, and others
one_name : (a b : List ℕ) → is_at (name_cmp a) b ≡ true → a ≡ b
one_name a b h = (bytes_eq-Decides a b).0 (sym (is_eq-slice_cmp a b) ∙ h)

other_name : (a b : List ℕ) → a ≢ b → is_at (name_cmp a) b ≡ false
other_name a b apart = by (is_at (name_cmp a) b) refl
  where
    by : (v : Bool) → is_at (name_cmp a) b ≡ v → v ≡ false
    by false e = refl
    by true e = absurd (apart (one_name a b e))

apart_names : (a b : List ℕ) → bytes_eq a b ≡ false → a ≢ b
apart_names a b h e = (let clash : true ≡ false = sym ((bytes_eq-Decides a b).1 e) ∙ h in cc)

pub group_other : (groups : Groups) (resource places other : List ℕ) → other ≢ resource → group_at (insert_entry name_cmp groups resource places) other ≡ group_at groups other
group_other [] resource places other apart = ap (λ v. cond v (Some places) None) (other_name other resource apart)
group_other (g ∷ gs) resource places other apart = by (name_cmp resource g.0) refl (group_other gs resource places other apart)
  where
    by : (r : Ordering) → name_cmp resource g.0 ≡ r → group_at (insert_entry name_cmp gs resource places) other ≡ group_at gs other
        → group_at (match_ordering r ((resource, places) ∷ g ∷ gs) ((g.0, places) ∷ gs) (g ∷ insert_entry name_cmp gs resource places)) other ≡ group_at (g ∷ gs) other
    by Less h rest = ap (λ v. cond v (Some places) (group_at (g ∷ gs) other)) (other_name other resource apart)
    by Equal h rest =
        let not_it : is_at (name_cmp other) g.0 ≡ false = other_name other g.0 (λ e. apart (e ∙ sym (equal_paths resource g.0 h))) in
        ap (λ v. cond v (Some places) (group_at gs other)) not_it ∙ sym (ap (λ v. cond v (Some g.1) (group_at gs other)) not_it)
    by Greater h rest = ap (λ o. cond (is_at (name_cmp other) g.0) (Some g.1) o) rest

pub group_left : (groups : Groups) (resource other : List ℕ) → other ≢ resource → group_at (remove_entry (is_at (name_cmp resource)) groups) other ≡ group_at groups other
group_left [] resource other apart = refl
group_left (g ∷ gs) resource other apart = by (is_at (name_cmp resource) g.0) refl (group_left gs resource other apart)
  where
    by : (v : Bool) → is_at (name_cmp resource) g.0 ≡ v → group_at (remove_entry (is_at (name_cmp resource)) gs) other ≡ group_at gs other
        → group_at (cond v gs (g ∷ remove_entry (is_at (name_cmp resource)) gs)) other ≡ group_at (g ∷ gs) other
    by true h rest = sym (ap (λ v. cond v (Some g.1) (group_at gs other)) (other_name other g.0 (λ e. apart (e ∙ sym (one_name resource g.0 h)))))
    by false h rest = ap (λ o. cond (is_at (name_cmp other) g.0) (Some g.1) o) rest

-- what a call puts in place
pub put_at : (old new : Groups) (resource places : List ℕ) → new ≡ insert_entry name_cmp old resource places → IsPutAt resource (Some places) old new
put_at old new resource places e = record {
  own = ap (λ l. group_at l resource) e ∙ put_found old resource places;
  others = λ other apart. ap (λ l. group_at l other) e ∙ group_other old resource places other apart;
}

pub gone_at : (old new : Groups) (resource : List ℕ) → new ≡ remove_entry (is_at (name_cmp resource)) old → group_at new resource ≡ None → IsPutAt resource None old new
gone_at old new resource e none = record { own = none; others = λ other apart. ap (λ l. group_at l other) e ∙ group_left old resource other apart }

pub left_none : (old new : Groups) (resource rest : List ℕ) → IsPutAt resource None old new → rest ≡ [] → AreLeftAt resource rest old new
left_none old new resource rest put none = record { own = ap all_or_none put.own ∙ sym none; others = put.others }

pub left_some : (old new : Groups) (resource rest : List ℕ) → IsPutAt resource (Some rest) old new → AreLeftAt resource rest old new
left_some old new resource rest put = record { own = ap all_or_none put.own; others = put.others }

-- one place from the one resource to the other
pub taken_to : (old mid new : Groups) (place : ℕ) (from to rest : List ℕ) → rest ≡ filter (λ n. not (n == place)) (places_at old from) → bytes_eq from to ≡ false
    → IsPutAt to (Some (places_at old to ++ place ∷ [])) old mid → AreLeftAt from rest mid new → MovesTo (bytes_eq from to) place from to old new
taken_to old mid new place from to rest is apart put left = subst (λ v. MovesTo v place from to old new) (sym apart) (record {
  taken = left.own ∙ is;
  given = ap all_or_none (left.others to (λ e. apart_names from to apart (sym e)) ∙ put.own);
  others = λ other away beside. ap all_or_none (left.others other away ∙ put.others other beside);
})

-- pairs and groups
pub none_grouped : (groups : Groups) (pairs : List Pair) → groups ≡ [] → pairs ≡ [] → AreGrouped groups pairs
none_grouped groups pairs g p = subst (λ l. AreGrouped l pairs) (sym g) (subst (AreGrouped []) (sym p) (record {
  within = λ resource place m. absurd (omega (arith, m.1));
  each = λ place h. absurd (omega (arith, h));
  own = λ resource place m. absurd (omega (arith, m.1));
  once = λ resource. tt;
}))

pub same_grouped : (groups : Groups) (old new : List Pair) → AreGrouped groups old → labels_of new ≡ labels_of old → length new ≡ length old → AreGrouped groups new
same_grouped groups old new before labels size = record {
  within = λ resource place m. (let k : place < length old = before.within resource place m in omega (arith, k, size));
  each = λ place h. subst (λ (l : List (List ℕ × Who)). Contains (places_at groups (get_or l place ([], Identity)).0) place) (sym labels) (before.each place (omega (arith, h, size)));
  own = λ resource place m. ap (λ (l : List (List ℕ × Who)). (get_or l place ([], Identity)).0) labels ∙ before.own resource place m;
  once = before.once;
}

stays_there : (places : List ℕ) (place gone : ℕ) → (place == gone) ≡ false → Contains places place → Contains (filter (λ n. not (n == gone)) places) place
stays_there [] place gone apart m = absurd (omega (arith, m.1))
stays_there (p ∷ ps) place gone apart m = elim (cases p place ps m) [
  | inl q ↦ subst (λ v. Contains (cond (not v) (p ∷ filter (λ n. not (n == gone)) ps) (filter (λ n. not (n == gone)) ps)) place) (sym (ap (λ n. n == gone) q ∙ apart)) (subst (λ x. Contains (p ∷ filter (λ n. not (n == gone)) ps) x) q (here p (filter (λ n. not (n == gone)) ps)))
  | inr n ↦ by (p == gone) (stays_there ps place gone apart n)
]
  where
    by : (v : Bool) → Contains (filter (λ n. not (n == gone)) ps) place → Contains (cond (not v) (p ∷ filter (λ n. not (n == gone)) ps) (filter (λ n. not (n == gone)) ps)) place
    by true k = k
    by false k = there p place (filter (λ n. not (n == gone)) ps) k

was_in : (places : List ℕ) (place gone : ℕ) → Contains (filter (λ n. not (n == gone)) places) place → Contains places place
was_in [] place gone m = m
was_in (p ∷ ps) place gone m = by (p == gone) m (was_in ps place gone)
  where
    by : (v : Bool) → Contains (cond (not v) (p ∷ filter (λ n. not (n == gone)) ps) (filter (λ n. not (n == gone)) ps)) place → (Contains (filter (λ n. not (n == gone)) ps) place → Contains ps place) → Contains (p ∷ ps) place
    by true k rest = there p place ps (rest k)
    by false k rest = elim (cases p place (filter (λ n. not (n == gone)) ps) k) [ inl q ↦ subst (Contains (p ∷ ps)) q (here p ps) | inr n ↦ there p place ps (rest n) ]

label_other : (pairs : List Pair) (at place : ℕ) (new : Pair) → (at == place) ≡ false → label_at (set pairs at new) place ≡ label_at pairs place
label_other pairs at place new s = ap (λ l. get_or l place ([], Identity)) (map-set (λ (p : Pair). (p.resource, p.who)) pairs at new)
    ∙ get_or-set_other (labels_of pairs) at place (new.resource, new.who) ([], Identity) (λ q. (let clash : true ≡ false = sym ((Decides-eqb at place).1 (sym q)) ∙ s in cc))

turned : (a b : ℕ) → (a == b) ≡ false → (b == a) ≡ false
turned a b h = by (b == a) refl
  where
    by : (v : Bool) → (b == a) ≡ v → v ≡ false
    by false e = refl
    by true e = (let clash : true ≡ false = sym ((Decides-eqb a b).1 (sym ((Decides-eqb b a).0 e))) ∙ h in cc)

-- places that stand once, with one more, and without one
once_more : (places : List ℕ) (place : ℕ) → AreOnce places → (Contains places place → ⊥) → AreOnce (places ++ place ∷ [])
once_more [] place o n = ((λ m. absurd (omega (arith, m.1))), tt)
once_more (p ∷ ps) place o n = (
  (λ m. elim (Contains-append_cases ps (place ∷ []) p m) [
    | inl k ↦ o.0 k
    | inr k ↦ n (elim (cases place p [] k) [ inl q ↦ head_is p place ps (sym q) | inr e ↦ absurd (omega (arith, e.1)) ])
  ]),
  once_more ps place o.1 (λ m. n (there p place ps m)),
)

once_less : (places : List ℕ) (gone : ℕ) → AreOnce places → AreOnce (filter (λ n. not (n == gone)) places)
once_less [] gone o = tt
once_less (p ∷ ps) gone o = by (p == gone) (once_less ps gone o.1)
  where
    by : (v : Bool) → AreOnce (filter (λ n. not (n == gone)) ps) → AreOnce (cond (not v) (p ∷ filter (λ n. not (n == gone)) ps) (filter (λ n. not (n == gone)) ps))
    by true k = k
    by false k = ((λ m. o.0 (was_in ps p gone m)), k)

gone_from : (places : List ℕ) (gone place : ℕ) → Contains (filter (λ n. not (n == gone)) places) place → (gone == place) ≡ false
gone_from [] gone place m = absurd (omega (arith, m.1))
gone_from (p ∷ ps) gone place m = by (p == gone) refl m (gone_from ps gone place)
  where
    by : (v : Bool) → (p == gone) ≡ v → Contains (cond (not v) (p ∷ filter (λ n. not (n == gone)) ps) (filter (λ n. not (n == gone)) ps)) place
        → (Contains (filter (λ n. not (n == gone)) ps) place → (gone == place) ≡ false) → (gone == place) ≡ false
    by true e k rest = rest k
    by false e k rest = elim (cases p place (filter (λ n. not (n == gone)) ps) k) [ inl q ↦ turned place gone (ap (λ n. n == gone) (sym q) ∙ e) | inr n ↦ rest n ]

-- a pair gives its place to another
pub grouped_moved : (old new : Groups) (pairs : List Pair) (at : ℕ) (own next : Pair) (from to : List ℕ) → AreGrouped old pairs → at < length pairs → own ≡ get_or pairs at own → from ≡ own.resource → next.resource ≡ to
    → MovesTo (bytes_eq from to) at from to old new → AreGrouped new (set pairs at next)
grouped_moved old new pairs at own next from to before h is was now moved = by (bytes_eq from to) refl moved
  where
    label_is : label_at (set pairs at next) at ≡ (to, next.who)
    label_is = label_set pairs at next h ∙ ap (λ r. (r, next.who)) now

    -- the resource of the one that stands there
    at_from : (resource : List ℕ) → Contains (places_at old resource) at → from ≡ resource
    at_from resource m = was ∙ sym (ap (λ (l : List ℕ × Who). l.0) (label_here pairs at own h is)) ∙ before.own resource at m

    new_label : (place : ℕ) → (at == place) ≡ true → (label_at (set pairs at next) place).0 ≡ to
    new_label place s = ap (λ n. (label_at (set pairs at next) n).0) (sym ((Decides-eqb at place).0 s)) ∙ ap (λ (l : List ℕ × Who). l.0) label_is

    kept_label : (resource : List ℕ) (place : ℕ) → Contains (places_at old resource) place → (at == place) ≡ false → (label_at (set pairs at next) place).0 ≡ resource
    kept_label resource place m s = ap (λ (l : List ℕ × Who). l.0) (label_other pairs at place next s) ∙ before.own resource place m

    at_old : (resource : List ℕ) (place : ℕ) → Contains (places_at old resource) place → (at == place) ≡ true → from ≡ resource
    at_old resource place m s = at_from resource (subst (λ n. Contains (places_at old resource) n) (sym ((Decides-eqb at place).0 s)) m)

    own_place : (groups : Groups) → Contains (places_at groups to) at → (place : ℕ) → (at == place) ≡ true → Contains (places_at groups (label_at (set pairs at next) place).0) place
    own_place groups m place s = subst (λ n. Contains (places_at groups (label_at (set pairs at next) n).0) n) ((Decides-eqb at place).0 s) (subst (λ (l : List ℕ × Who). Contains (places_at groups l.0) at) (sym label_is) m)

    old_place : (place : ℕ) → place < length (set pairs at next) → Contains (places_at old (label_at pairs place).0) place
    old_place place k = before.each place (omega (arith, k, length-set pairs at next))

    by : (v : Bool) → bytes_eq from to ≡ v → MovesTo v at from to old new → AreGrouped new (set pairs at next)
    by true e same = subst (λ l. AreGrouped l (set pairs at next)) (sym same) (record {
      within = λ resource place m. (let k : place < length pairs = before.within resource place m in omega (arith, k, length-set pairs at next));
      each = λ place k. each_in place k (at == place) refl;
      own = λ resource place m. own_in resource place m (at == place) refl;
      once = before.once;
    })
      where
        own_in : (resource : List ℕ) (place : ℕ) → Contains (places_at old resource) place → (v : Bool) → (at == place) ≡ v → (label_at (set pairs at next) place).0 ≡ resource
        own_in resource place m true s = new_label place s ∙ sym ((bytes_eq-Decides from to).0 e) ∙ at_old resource place m s
        own_in resource place m false s = kept_label resource place m s

        there_already : Contains (places_at old to) at
        there_already = subst (λ r. Contains (places_at old r) at) (ap (λ (l : List ℕ × Who). l.0) (label_here pairs at own h is) ∙ sym was ∙ (bytes_eq-Decides from to).0 e) (before.each at h)

        each_in : (place : ℕ) → place < length (set pairs at next) → (v : Bool) → (at == place) ≡ v → Contains (places_at old (label_at (set pairs at next) place).0) place
        each_in place k true s = own_place old there_already place s
        each_in place k false s = subst (λ (l : List ℕ × Who). Contains (places_at old l.0) place) (sym (label_other pairs at place next s)) (old_place place k)
    by false e moves = record {
      within = λ resource place m. within_in resource place m (bytes_eq resource to) refl (bytes_eq resource from) refl;
      each = λ place k. each_in place k (at == place) refl;
      own = λ resource place m. own_in resource place m (bytes_eq resource to) refl (bytes_eq resource from) refl;
      once = λ resource. once_in resource (bytes_eq resource to) refl (bytes_eq resource from) refl;
    }
      where
        other_label : (resource : List ℕ) (place : ℕ) → Contains (places_at old resource) place → (from ≡ resource → ⊥) → (v : Bool) → (at == place) ≡ v → (label_at (set pairs at next) place).0 ≡ resource
        other_label resource place m away true s = absurd (away (at_old resource place m s))
        other_label resource place m away false s = kept_label resource place m s

        own_in : (resource : List ℕ) (place : ℕ) → Contains (places_at new resource) place → (u : Bool) → bytes_eq resource to ≡ u → (v : Bool) → bytes_eq resource from ≡ v → (label_at (set pairs at next) place).0 ≡ resource
        own_in resource place m true s v t = elim (Contains-append_cases (places_at old to) (at ∷ []) place (subst (λ l. Contains l place) (ap (places_at new) ((bytes_eq-Decides resource to).0 s) ∙ moves.given) m)) [
          | inl k ↦ other_label to place k (apart_names from to e) (at == place) refl ∙ sym ((bytes_eq-Decides resource to).0 s)
          | inr k ↦ elim (cases at place [] k) [ inl q ↦ new_label place ((Decides-eqb at place).1 q) ∙ sym ((bytes_eq-Decides resource to).0 s) | inr n ↦ absurd (omega (arith, n.1)) ]
        ]
        own_in resource place m false s true t =
            let k : Contains (filter (λ n. not (n == at)) (places_at old from)) place = subst (λ l. Contains l place) (ap (places_at new) ((bytes_eq-Decides resource from).0 t) ∙ moves.taken) m in
            kept_label from place (was_in (places_at old from) place at k) (gone_from (places_at old from) at place k) ∙ sym ((bytes_eq-Decides resource from).0 t)
        own_in resource place m false s false t = other_label resource place (subst (λ l. Contains l place) (moves.others resource (apart_names resource from t) (apart_names resource to s)) m)
            (λ q. apart_names resource from t (sym q)) (at == place) refl

        once_in : (resource : List ℕ) → (u : Bool) → bytes_eq resource to ≡ u → (v : Bool) → bytes_eq resource from ≡ v → AreOnce (places_at new resource)
        once_in resource true s v t = subst AreOnce (sym (ap (places_at new) ((bytes_eq-Decides resource to).0 s) ∙ moves.given))
            (once_more (places_at old to) at (before.once to) (λ m. apart_names from to e (at_from to m)))
        once_in resource false s true t = subst AreOnce (sym (ap (places_at new) ((bytes_eq-Decides resource from).0 t) ∙ moves.taken)) (once_less (places_at old from) at (before.once from))
        once_in resource false s false t = subst AreOnce (sym (moves.others resource (apart_names resource from t) (apart_names resource to s))) (before.once resource)

        fits : (resource : List ℕ) (place : ℕ) → Contains (places_at old resource) place → place < length (set pairs at next)
        fits resource place m = (let k : place < length pairs = before.within resource place m in omega (arith, k, length-set pairs at next))

        within_in : (resource : List ℕ) (place : ℕ) → Contains (places_at new resource) place → (u : Bool) → bytes_eq resource to ≡ u → (v : Bool) → bytes_eq resource from ≡ v → place < length (set pairs at next)
        within_in resource place m true s v t = elim (Contains-append_cases (places_at old to) (at ∷ []) place (subst (λ l. Contains l place) (ap (places_at new) ((bytes_eq-Decides resource to).0 s) ∙ moves.given) m)) [
          | inl k ↦ fits to place k
          | inr k ↦ elim (cases at place [] k) [ inl q ↦ omega (arith, h, length-set pairs at next, q) | inr n ↦ absurd (omega (arith, n.1)) ]
        ]
        within_in resource place m false s true t = fits from place (was_in (places_at old from) place at (subst (λ l. Contains l place) (ap (places_at new) ((bytes_eq-Decides resource from).0 t) ∙ moves.taken) m))
        within_in resource place m false s false t = fits resource place (subst (λ l. Contains l place) (moves.others resource (apart_names resource from t) (apart_names resource to s)) m)

        still : (resource : List ℕ) (place : ℕ) → (at == place) ≡ false → Contains (places_at old resource) place → (u : Bool) → bytes_eq resource to ≡ u → (v : Bool) → bytes_eq resource from ≡ v → Contains (places_at new resource) place
        still resource place s m true f v t = subst (λ l. Contains l place) (sym (ap (places_at new) ((bytes_eq-Decides resource to).0 f) ∙ moves.given)) (Contains-append_left (places_at old to) (at ∷ []) place (subst (λ r. Contains (places_at old r) place) ((bytes_eq-Decides resource to).0 f) m))
        still resource place s m false f true t = subst (λ l. Contains l place) (sym (ap (places_at new) ((bytes_eq-Decides resource from).0 t) ∙ moves.taken))
            (stays_there (places_at old from) place at (turned at place s) (subst (λ r. Contains (places_at old r) place) ((bytes_eq-Decides resource from).0 t) m))
        still resource place s m false f false t = subst (λ l. Contains l place) (sym (moves.others resource (apart_names resource from t) (apart_names resource to f))) m

        each_in : (place : ℕ) → place < length (set pairs at next) → (v : Bool) → (at == place) ≡ v → Contains (places_at new (label_at (set pairs at next) place).0) place
        each_in place k true s = own_place new (subst (λ l. Contains l at) (sym moves.given) (Contains-append_right (places_at old to) (at ∷ []) at (here at []))) place s
        each_in place k false s = subst (λ (l : List ℕ × Who). Contains (places_at new l.0) place) (sym (label_other pairs at place next s))
            (still (label_at pairs place).0 place s (old_place place k) (bytes_eq (label_at pairs place).0 to) refl (bytes_eq (label_at pairs place).0 from) refl)

-- one pair more
pub grouped_pushed : (old new : Groups) (pairs : List Pair) (next : Pair) (resource : List ℕ) → AreGrouped old pairs → next.resource ≡ resource → IsPutAt resource (Some (places_at old resource ++ length pairs ∷ [])) old new → AreGrouped new (pairs ++ next ∷ [])
grouped_pushed old new pairs next resource before now put = record {
  within = λ other place m. within_in other place m (bytes_eq other resource) refl;
  each = λ place k. each_in place (omega (arith, k, length-append pairs (next ∷ []))) (length pairs == place) refl;
  own = λ other place m. own_in other place m (bytes_eq other resource) refl;
  once = λ other. once_in other (bytes_eq other resource) refl;
}
  where
    given : places_at new resource ≡ places_at old resource ++ length pairs ∷ []
    given = ap all_or_none put.own

    fits : (other : List ℕ) (place : ℕ) → Contains (places_at old other) place → place < length (pairs ++ next ∷ [])
    fits other place m = (let k : place < length pairs = before.within other place m in omega (arith, k, length-append pairs (next ∷ [])))

    within_in : (other : List ℕ) (place : ℕ) → Contains (places_at new other) place → (v : Bool) → bytes_eq other resource ≡ v → place < length (pairs ++ next ∷ [])
    within_in other place m true s = elim (Contains-append_cases (places_at old resource) (length pairs ∷ []) place (subst (λ l. Contains l place) (ap (places_at new) ((bytes_eq-Decides other resource).0 s) ∙ given) m)) [
      | inl k ↦ fits resource place k
      | inr k ↦ elim (cases (length pairs) place [] k) [ inl q ↦ omega (arith, length-append pairs (next ∷ []), q) | inr n ↦ absurd (omega (arith, n.1)) ]
    ]
    within_in other place m false s = fits other place (subst (λ l. Contains l place) (ap all_or_none (put.others other (apart_names other resource s))) m)

    own_before : (other : List ℕ) (place : ℕ) → Contains (places_at old other) place → (label_at (pairs ++ next ∷ []) place).0 ≡ other
    own_before other place m = ap (λ (l : List ℕ × Who). l.0) (label_before pairs next place (before.within other place m)) ∙ before.own other place m

    own_in : (other : List ℕ) (place : ℕ) → Contains (places_at new other) place → (v : Bool) → bytes_eq other resource ≡ v → (label_at (pairs ++ next ∷ []) place).0 ≡ other
    own_in other place m true s = elim (Contains-append_cases (places_at old resource) (length pairs ∷ []) place (subst (λ l. Contains l place) (ap (places_at new) ((bytes_eq-Decides other resource).0 s) ∙ given) m)) [
      | inl k ↦ own_before resource place k ∙ sym ((bytes_eq-Decides other resource).0 s)
      | inr k ↦ elim (cases (length pairs) place [] k) [
        | inl q ↦ ap (λ n. (label_at (pairs ++ next ∷ []) n).0) (sym q) ∙ ap (λ (l : List ℕ × Who). l.0) (label_last pairs next) ∙ now ∙ sym ((bytes_eq-Decides other resource).0 s)
        | inr n ↦ absurd (omega (arith, n.1))
      ]
    ]
    own_in other place m false s = own_before other place (subst (λ l. Contains l place) (ap all_or_none (put.others other (apart_names other resource s))) m)

    once_in : (other : List ℕ) → (v : Bool) → bytes_eq other resource ≡ v → AreOnce (places_at new other)
    once_in other true s = subst AreOnce (sym (ap (places_at new) ((bytes_eq-Decides other resource).0 s) ∙ given))
        (once_more (places_at old resource) (length pairs) (before.once resource) (λ m. (let k : length pairs < length pairs = before.within resource (length pairs) m in omega (arith, k))))
    once_in other false s = subst AreOnce (sym (ap all_or_none (put.others other (apart_names other resource s)))) (before.once other)

    still : (other : List ℕ) (place : ℕ) → Contains (places_at old other) place → (v : Bool) → bytes_eq other resource ≡ v → Contains (places_at new other) place
    still other place m true s = subst (λ l. Contains l place) (sym (ap (places_at new) ((bytes_eq-Decides other resource).0 s) ∙ given))
        (Contains-append_left (places_at old resource) (length pairs ∷ []) place (subst (λ r. Contains (places_at old r) place) ((bytes_eq-Decides other resource).0 s) m))
    still other place m false s = subst (λ l. Contains l place) (sym (ap all_or_none (put.others other (apart_names other resource s)))) m

    each_in : (place : ℕ) → place ≤ length pairs → (v : Bool) → (length pairs == place) ≡ v → Contains (places_at new (label_at (pairs ++ next ∷ []) place).0) place
    each_in place k true s = subst (λ n. Contains (places_at new (label_at (pairs ++ next ∷ []) n).0) n) ((Decides-eqb (length pairs) place).0 s)
        (subst (λ (l : List ℕ × Who). Contains (places_at new l.0) (length pairs)) (sym (label_last pairs next ∙ ap (λ r. (r, next.who)) now)) (subst (λ l. Contains l (length pairs)) (sym given) (Contains-append_right (places_at old resource) (length pairs ∷ []) (length pairs) (here (length pairs) []))))
    each_in place k false s =
        let within : place < length pairs = below place k s in
        subst (λ (l : List ℕ × Who). Contains (places_at new l.0) place) (sym (label_before pairs next place within)) (still (label_at pairs place).0 place (before.each place within) (bytes_eq (label_at pairs place).0 resource) refl)
      where
        below : (n : ℕ) → n ≤ length pairs → (length pairs == n) ≡ false → n < length pairs
        below n l t = elim (cases_lt n (length pairs)) [
          | inl m ↦ m
          | inr m ↦ absurd (let same : length pairs ≡ n = omega (arith, l, m) in let clash : true ≡ false = sym ((Decides-eqb (length pairs) n).1 same) ∙ t in cc)
        ]

-- none of the places so far is that of the pair
pub record AreOthers (pairs : List Pair) (places : List ℕ) (resource : List ℕ) (who : Who) (j : ℕ) : Type 0 where
  pub so_far : (place : ℕ) → Contains (take j places) place → label_at pairs place ≢ (resource, who)

pub among_begin : (pairs : List Pair) (places : List ℕ) (resource : List ℕ) (who : Who) → AreOthers pairs places resource who 0
among_begin pairs places resource who = record { so_far = λ place m. absurd (omega (arith, m.1)) }

pub among_within : (pairs : List Pair) (places : List ℕ) (j place : ℕ) → AreWithin places (length pairs) → j < length places → place ≡ get_or places j 0 → place < length pairs
among_within pairs places j place within h is = within place (j, h, get_or_default places j place 0 h ∙ sym is)

pub among_more : (pairs : List Pair) (places : List ℕ) (resource : List ℕ) (who : Who) (j place : ℕ) (own : Pair) → AreOthers pairs places resource who j → AreWithin places (length pairs) → j < length places → place ≡ get_or places j 0
    → own ≡ get_or pairs place own → is_pair resource who own ≡ false → AreOthers pairs places resource who (j + 1)
among_more pairs places resource who j place own before within h at is other = record {
  so_far = λ one m. elim (Contains-append_cases (take j places) (place ∷ []) one (subst (λ l. Contains l one) (take_at_more places j place h (at ∙ get_or_default places j 0 place h)) m)) [
    | inl k ↦ before.so_far one k
    | inr k ↦ elim (cases place one [] k) [
      | inl q ↦ λ e. (let clash : true ≡ false = sym (label_is (own.resource, own.who) resource who (sym (label_here pairs place own (among_within pairs places j place within h at) is) ∙ ap (label_at pairs) q ∙ e)) ∙ other in cc)
      | inr n ↦ absurd (omega (arith, n.1))
    ]
  ];
}

pub among_found : (pairs : List Pair) (place : ℕ) (resource : List ℕ) (who : Who) (own : Pair) → place < length pairs → own ≡ get_or pairs place own → is_pair resource who own ≡ true → label_at pairs place ≡ (resource, who)
among_found pairs place resource who own h is it = label_here pairs place own h is ∙ is_label (own.resource, own.who) resource who it

pub among_end : (pairs : List Pair) (places : List ℕ) (resource : List ℕ) (who : Who) (j : ℕ) → AreOthers pairs places resource who j → length places ≤ j → (place : ℕ) → Contains places place → label_at pairs place ≢ (resource, who)
among_end pairs places resource who j before h place m = before.so_far place (subst (λ l. Contains l place) (sym (take_all j places h)) m)

-- the first pair of its resource and its provider is the one
pub found_first : (pairs : List Pair) (resource : List ℕ) (who : Who) (place : ℕ) → AreApart (labels_of pairs) → place < length pairs → label_at pairs place ≡ (resource, who) → Some place ≡ position (is_pair resource who) pairs
found_first pairs resource who place apart h own = by (position (is_pair resource who) pairs) refl
  where
    by : (o : Option ℕ) → position (is_pair resource who) pairs ≡ o → Some place ≡ o
    by None e = absurd (no_place pairs resource who place e h own)
    by (Some k) e = (let found = found_place pairs resource who k e in ap Some (apart place k (labels_fit pairs place h) (labels_fit pairs k found.0) (own ∙ sym found.1)))

pub found_none : (groups : Groups) (pairs : List Pair) (resource : List ℕ) (who : Who) → AreGrouped groups pairs → ((place : ℕ) → Contains (places_at groups resource) place → label_at pairs place ≢ (resource, who)) → None ≡ position (is_pair resource who) pairs
found_none groups pairs resource who grouped none = by (position (is_pair resource who) pairs) refl
  where
    by : (o : Option ℕ) → position (is_pair resource who) pairs ≡ o → None ≡ o
    by None e = refl
    by (Some k) e = absurd (let found = found_place pairs resource who k e in none k (subst (λ (l : List ℕ × Who). Contains (places_at groups l.0) k) found.1 (grouped.each k found.0)) found.1)

pub grouped_added : (old new : Groups) (pairs all : List Pair) (pair : Pair) (resource : List ℕ) (place : ℕ) → AreGrouped old pairs → resource ≡ pair.resource → place ≡ length pairs → IsPutAt resource (Some (places_at old resource ++ place ∷ [])) old new
    → all ≡ pairs ++ pair ∷ [] → AreGrouped new all
grouped_added old new pairs all pair resource place before is at put e = subst (AreGrouped new) (sym e)
    (grouped_pushed old new pairs pair resource before (sym is) (subst (λ n. IsPutAt resource (Some (places_at old resource ++ n ∷ [])) old new) at put))

pub same_length : (old new : List Pair) → labels_of new ≡ labels_of old → length new ≡ length old
same_length old new labels = omega (arith, length-map {B = List ℕ × Who} new (λ p. (p.resource, p.who)), length-map {B = List ℕ × Who} old (λ p. (p.resource, p.who)), ap length labels)

pub grouped_still : (groups : Groups) (old new : List Pair) → AreGrouped groups old → labels_of new ≡ labels_of old → AreGrouped groups new
grouped_still groups old new before labels = same_grouped groups old new before labels (same_length old new labels)

-- the pairs between, of the same labels and paths, and what a place is given to
none_still : (old mid : List Pair) (resource : List ℕ) (who : Who) → labels_of mid ≡ labels_of old → None ≡ position (is_pair resource who) old → position (is_pair resource who) mid ≡ None
none_still old mid resource who labels none = by (position (is_pair resource who) mid) refl
  where
    by : (o : Option ℕ) → position (is_pair resource who) mid ≡ o → o ≡ None
    by None e = refl
    by (Some k) e =
        let found = found_place mid resource who k e in
        absurd (no_place old resource who k (sym none) (omega (arith, found.0, same_length old mid labels)) (ap (λ l. get_or l k ([], Identity)) (sym labels) ∙ found.1))

before_mid : (old mid new : List Pair) → labels_of mid ≡ labels_of old → kept_paths mid ≡ kept_paths old → AreAsBefore mid new → AreAsBefore old new
before_mid old mid new labels paths before = record {
  paths = λ place. before.paths place ∙ ap (λ l. get_or l place []) paths;
  labels = λ place some. before.labels place (λ e. some (ap (λ l. get_or l place []) (sym paths) ∙ e)) ∙ ap (λ l. get_or l place ([], Identity)) labels;
}

pub given_before : (old mid new : List Pair) (place : ℕ) (pair : Pair) → labels_of mid ≡ labels_of old → kept_paths mid ≡ kept_paths old → paths_at mid place ≡ [] → pair.paths ≡ [] → new ≡ set mid place pair → AreAsBefore old new
given_before old mid new place pair labels paths empty none put = subst (AreAsBefore old) (sym put) (before_mid old mid (set mid place pair) labels paths (replaced mid place pair empty none))

pub given_label : (mid new : List Pair) (place : ℕ) (pair : Pair) (resource : List ℕ) (who : Who) → place < length mid → pair.resource ≡ resource → pair.who ≡ who → new ≡ set mid place pair → (place < length new) × (label_at new place ≡ (resource, who))
given_label mid new place pair resource who h r w put = subst (λ (l : List Pair). (place < length l) × (label_at l place ≡ (resource, who))) (sym put) (omega (arith, h, length-set mid place pair), label_put mid place pair resource who h r w)

pub given_apart : (old mid new : List Pair) (place : ℕ) (pair : Pair) (resource : List ℕ) (who : Who) → AreApart (labels_of old) → labels_of mid ≡ labels_of old → None ≡ position (is_pair resource who) old → place < length mid
    → pair.resource ≡ resource → pair.who ≡ who → new ≡ set mid place pair → AreApart (labels_of new)
given_apart old mid new place pair resource who apart labels none h r w put = subst (λ (l : List Pair). AreApart (labels_of l)) (sym put)
    (apart_set mid place pair resource who (subst AreApart (sym labels) apart) (none_still old mid resource who labels none) r w h)

pub added_apart : (old mid new : List Pair) (pair : Pair) (resource : List ℕ) (who : Who) → AreApart (labels_of old) → labels_of mid ≡ labels_of old → None ≡ position (is_pair resource who) old
    → pair.resource ≡ resource → pair.who ≡ who → new ≡ mid ++ pair ∷ [] → AreApart (labels_of new)
added_apart old mid new pair resource who apart labels none r w put = subst (λ (l : List Pair). AreApart (labels_of l)) (sym put)
    (apart_push mid pair resource who (subst AreApart (sym labels) apart) (none_still old mid resource who labels none) r w)

pub added_grows : (old mid new : List Pair) (pair : Pair) → labels_of mid ≡ labels_of old → kept_paths mid ≡ kept_paths old → AreNeeded mid → new ≡ mid ++ pair ∷ [] → GrowsFor old new
added_grows old mid new pair labels paths needed put = inr (
  λ place h e. needed place (omega (arith, h, same_length old mid labels)) (ap (λ l. get_or l place []) paths ∙ e),
  ap length put ∙ omega (arith, length-append mid (pair ∷ []), same_length old mid labels),
)
