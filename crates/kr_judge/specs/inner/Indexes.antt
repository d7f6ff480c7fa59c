-- Needs as they are kept: for each path the place of its pair of a resource and a provider, and for
-- each pair the paths that need it.
use Rattle.std.specs.Prelude.{◌≡◌, ℕ, ◌<◌, ◌+◌, ◌⊎◌, Contains, ◌==◌, ◌&&◌, Bool, true, false, IsSome, if◌then◌else◌, List, [], length, get_or, map, MatchOption, Option, None, Some, ⊤}
use Rattle.std.specs.List.{filter}
use Rattle.std.specs.List.Sorted.{IsStrictlySortedBy}
use Rattle.std.specs.Option.{option_map}
use Rattle.std.specs.Str.{bytes_eq}
use Rattle.std.specs.Map.{lookup, remove_entry}
use Rattle.std.specs.BTreeMap.{is_at}
use Rattle.std.specs.BTreeSet.{insert_key}
use Rattle.kr_config.specs.declared.who.Who.{Who}
use Rattle.kr_config.specs.declared.who.Who.TheVariants.{Identity}
use Rattle.kr_config.specs.Nexts.{name_cmp}
use Rattle.kr_judge.specs.declared.need.Need.{Need}
use Rattle.kr_judge.specs.declared.pair.Pair.{Pair}
use Rattle.kr_judge.specs.declared.proposal.Proposal.{Proposal}
use Rattle.kr_judge.specs.Providers.{same_who}

-- paths with the places of their pairs, in order
abbrev pub AreSorted : List (List ℕ × ℕ) → Type 0
AreSorted entries = IsStrictlySortedBy name_cmp (map (λ entry. entry.0) entries)

-- the need of a path, by the place of its pair
abbrev pub need_of : List (List ℕ × Who) → List ℕ × ℕ → Need
need_of labels entry = record {
  path = entry.0;
  resource = (get_or labels entry.1 ([], Identity)).0;
  who = (get_or labels entry.1 ([], Identity)).1;
}

abbrev pub needs_of : List (List ℕ × Who) → List (List ℕ × ℕ) → List Need
needs_of labels entries = map (need_of labels) entries

-- the paths of the pair at a place
abbrev pub paths_of : ℕ → List (List ℕ × ℕ) → List (List ℕ)
paths_of place entries = map (λ entry. entry.0) (filter (λ entry. entry.1 == place) entries)

-- the pair is of the resource and the provider
abbrev pub is_pair : List ℕ → Who → Pair → Bool
is_pair resource who pair = bytes_eq pair.resource resource && same_who pair.who who

-- the pairs' resources and providers, and their paths
abbrev pub labels_of : List Pair → List (List ℕ × Who)
labels_of pairs = map (λ pair. (pair.resource, pair.who)) pairs

-- no two pairs are of one resource and one provider
abbrev pub AreApart : List (List ℕ × Who) → Type 0
AreApart labels = (place other : ℕ) → place < length labels → other < length labels
    → get_or labels place ([], Identity) ≡ get_or labels other ([], Identity) → place ≡ other

abbrev pub kept_paths : List Pair → List (List (List ℕ))
kept_paths pairs = map (λ pair. pair.paths) pairs

-- a proposed path is among the paths of its pair
abbrev pub with_proposed : Option Proposal → ℕ → List (List ℕ) → List (List ℕ)
with_proposed None place paths = paths
with_proposed (Some p) place paths =
    if p.place == place then insert_key name_cmp paths p.path else paths

-- and it has a place of its own, though nothing is needed there yet
abbrev pub without_proposed : Option Proposal → List (List ℕ × ℕ) → List (List ℕ × ℕ)
without_proposed None entries = entries
without_proposed (Some p) entries =
    if p.fresh then remove_entry (is_at (name_cmp p.path)) entries else entries

abbrev pub Stands : List (List ℕ × ℕ) → ℕ → Proposal → Type 0
Stands entries count p = (p.place < count)
    × IsSome (lookup (is_at (name_cmp p.path)) entries)
    × (p.fresh ≡ true → lookup (is_at (name_cmp p.path)) entries ≡ Some p.place)

-- what is kept by path and by pair is the same
pub record IsIndexed (entries : List (List ℕ × ℕ)) (pairs : List Pair)
    (proposal : Option Proposal) : Type 0 where
  pub sorted : AreSorted entries
  pub paths : (place : ℕ) → get_or (kept_paths pairs) place []
      ≡ with_proposed proposal place (paths_of place entries)
  pub stands : MatchOption proposal ⊤ (Stands entries (length pairs))

-- what is seen of it; pairs is how many pairs are kept
pub record NeedsState : Type 0 where
  pub needs : List Need
  pub proposal : Option Need
  pub pairs : ℕ

abbrev pub proposed_need : List (List ℕ × Who) → Option Proposal → Option Need
proposed_need labels proposal = option_map (λ p. need_of labels (p.path, p.place)) proposal

-- pairs may change while they have no paths
pub record AreAsBefore (old new : List Pair) : Type 0 where
  pub paths : (place : ℕ) → get_or (kept_paths new) place [] ≡ get_or (kept_paths old) place []
  pub labels : (place : ℕ) → (get_or (kept_paths old) place [] ≡ [] → ⊥)
      → get_or (labels_of new) place ([], Identity) ≡ get_or (labels_of old) place ([], Identity)

-- the paths of one pair change
pub record IsChangedAt (change : List (List ℕ) → List (List ℕ)) (place : ℕ)
    (old new : List Pair) : Type 0 where
  pub labels : labels_of new ≡ labels_of old
  pub paths : (other : ℕ) → get_or (kept_paths new) other []
      ≡ (if place == other then change (get_or (kept_paths old) other [])
      else get_or (kept_paths old) other [])

-- the paths of the one pair change, where the other isn't the same
abbrev pub MovesUnless : Bool → (List (List ℕ) → List (List ℕ)) → ℕ → (old new : List Pair) → Type 0
MovesUnless true change own old new = new ≡ old
MovesUnless false change own old new = IsChangedAt change own old new

abbrev pub IsMoved : (List (List ℕ) → List (List ℕ)) → (own place : ℕ) → (old new : List Pair)
    → Type 0
IsMoved change own place old new = MovesUnless (own == place) change own old new

-- what is seen of the places and the pairs
abbrev pub needs_view : List (List ℕ × ℕ) → List Pair → Option Proposal → NeedsState
needs_view entries pairs proposal = record {
  needs = needs_of (labels_of pairs) (without_proposed proposal entries);
  proposal = proposed_need (labels_of pairs) proposal;
  pairs = length pairs;
}

-- of the needs so many are of a resource and a provider each of their own
abbrev pub AreSoManyApart : List Need → ℕ → Type 0
AreSoManyApart needs count = (chosen : List Need)
    × ((need : Need) → Contains chosen need → Contains needs need)
    × AreApart (map (λ need. (need.resource, need.who)) chosen)
    × (length chosen ≡ count)

-- there is a pair more only where so many were needed as there were pairs, and then one more
abbrev pub GrowsWith : List Need → (old new : ℕ) → Type 0
GrowsWith needs old new = (new ≡ old) ⊎ (AreSoManyApart needs old × (new ≡ old + 1))
