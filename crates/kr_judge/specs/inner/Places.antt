-- Where the pairs of a resource stand, and which places may be free.
use Rattle.std.specs.Prelude.{◌≡◌, ◌≢◌, ℕ, ◌<◌, ◌≤◌, ◌+◌, ◌==◌, Bool, true, false, not, List, [], ◌∷◌, ◌++◌, length, get_or, map, Option, None, Some, Contains, ◌⊎◌, ⊤}
use Rattle.std.specs.List.{filter}
use Rattle.std.specs.Map.{lookup}
use Rattle.std.specs.BTreeMap.{is_at}
use Rattle.kr_config.specs.declared.who.Who.{Who}
use Rattle.kr_config.specs.declared.who.Who.TheVariants.{Identity}
use Rattle.kr_config.specs.Nexts.{name_cmp}
use Rattle.kr_judge.specs.declared.pair.Pair.{Pair}
use Rattle.kr_judge.specs.inner.Indexes.{labels_of, kept_paths}

-- resources with places
abbrev pub Groups : Type 0
Groups = List (List ℕ × List ℕ)

abbrev pub group_at : Groups → List ℕ → Option (List ℕ)
group_at groups resource = lookup (is_at (name_cmp resource)) groups

abbrev pub all_or_none : Option (List ℕ) → List ℕ
all_or_none None = []
all_or_none (Some places) = places

-- the places at the resource
abbrev pub places_at : Groups → List ℕ → List ℕ
places_at groups resource = all_or_none (group_at groups resource)

-- what is at the one resource is put in place of what was there
pub record IsPutAt (resource : List ℕ) (group : Option (List ℕ)) (old new : Groups) : Type 0 where
  pub own : group_at new resource ≡ group
  pub others : (other : List ℕ) → other ≢ resource → group_at new other ≡ group_at old other

-- these are left at the resource, which has no group where none is
pub record AreLeftAt (resource places : List ℕ) (old new : Groups) : Type 0 where
  pub own : places_at new resource ≡ places
  pub others : (other : List ℕ) → other ≢ resource → group_at new other ≡ group_at old other

-- the place leaves the one resource and comes to the other
pub record IsTakenTo (place : ℕ) (from to : List ℕ) (old new : Groups) : Type 0 where
  pub taken : places_at new from ≡ filter (λ n. not (n == place)) (places_at old from)
  pub given : places_at new to ≡ places_at old to ++ place ∷ []
  pub others : (other : List ℕ) → other ≢ from → other ≢ to
      → places_at new other ≡ places_at old other

-- where the two are one, nothing changes
abbrev pub MovesTo : Bool → (place : ℕ) → (from to : List ℕ) → (old new : Groups) → Type 0
MovesTo true place from to old new = new ≡ old
MovesTo false place from to old new = IsTakenTo place from to old new

abbrev pub label_at : List Pair → ℕ → List ℕ × Who
label_at pairs place = get_or (labels_of pairs) place ([], Identity)

abbrev pub paths_at : List Pair → ℕ → List (List ℕ)
paths_at pairs place = get_or (kept_paths pairs) place []

abbrev pub AreWithin : List ℕ → ℕ → Type 0
AreWithin places count = (place : ℕ) → Contains places place → place < count

-- no place stands there twice
abbrev pub AreOnce : List ℕ → Type 0
AreOnce [] = ⊤
AreOnce (place ∷ rest) = (Contains rest place → ⊥) × AreOnce rest

-- each pair's place is at its resource, once, and at a resource are no others' places
pub record AreGrouped (groups : Groups) (pairs : List Pair) : Type 0 where
  pub within : (resource : List ℕ) → AreWithin (places_at groups resource) (length pairs)
  pub each : (place : ℕ) → place < length pairs
      → Contains (places_at groups (label_at pairs place).0) place
  pub own : (resource : List ℕ) (place : ℕ) → Contains (places_at groups resource) place
      → (label_at pairs place).0 ≡ resource
  pub once : (resource : List ℕ) → AreOnce (places_at groups resource)

abbrev pub is_listed : List Pair → ℕ → Bool
is_listed pairs place = get_or (map (λ pair. pair.listed) pairs) place false

-- each pair without paths is listed, and the place of each that is listed is among the free ones,
-- of which there are no more
pub record AreFree (free : List ℕ) (pairs : List Pair) : Type 0 where
  pub within : AreWithin free (length pairs)
  pub few : length free ≤ length (filter (λ pair. pair.listed) pairs)
  pub empties : (place : ℕ) → place < length pairs → paths_at pairs place ≡ []
      → is_listed pairs place ≡ true
  pub listed : (place : ℕ) → is_listed pairs place ≡ true → Contains free place

-- each pair has a path
abbrev pub AreNeeded : List Pair → Type 0
AreNeeded pairs = (place : ℕ) → place < length pairs → paths_at pairs place ≢ []

-- there is a pair more only where each had a path, and then one more
abbrev pub GrowsFor : (old new : List Pair) → Type 0
GrowsFor old new = (length new ≡ length old) ⊎ (AreNeeded old × (length new ≡ length old + 1))
