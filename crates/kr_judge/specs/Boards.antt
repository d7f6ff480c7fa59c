-- The state of a board: the generations of settings, the needs of what is stored, and a proposal.
use Rattle.std.specs.Prelude.{ℕ, zero, suc, ◌<◌, ◌≤◌, ◌+◌, ◌^◌, ◌-◌, ◌==◌, ◌&&◌, ◌||◌, nat_lt, not, Bool, true, false, IsTrue, if◌then◌else◌, List, [], ◌∷◌, ◌++◌, length, Option, None, Some, map}
use Rattle.std.specs.List.{slice_get, filter, find}
use Rattle.std.specs.List.Sorted.{IsStrictlySortedBy}
use Rattle.std.specs.Option.{IsSomeAnd}
use Rattle.std.specs.Ordering.{match_ordering}
use Rattle.std.specs.Str.{bytes_eq}
use Rattle.kr_config.specs.Kept.{ConfigEntry}
use Rattle.kr_config.specs.Nexts.{name_cmp}
use Rattle.kr_judge.specs.declared.need.Need.{Need}

-- settings that a replica took up, by their rows; whether they are its current ones; and how many
-- hold them
pub record GenerationState : Type 0 where
  pub replica : ℕ
  pub rows : List ConfigEntry
  pub current : Bool
  pub holders : ℕ

-- a generation's number is its place; room is for how many generations there is room in all
pub record BoardState : Type 0 where
  pub generations : List GenerationState
  pub needs : List Need
  pub proposal : Option Need
  pub room : ℕ

-- a generation is live while it is its replica's current one or something holds it
abbrev pub is_live : GenerationState → Bool
is_live generation = generation.current || nat_lt 0 generation.holders

-- the replica's current generation is no longer current
abbrev pub left_by : ℕ → GenerationState → GenerationState
left_by replica generation =
    record generation { current = generation.current && not (generation.replica == replica) }

abbrev pub without_current : ℕ → List GenerationState → List GenerationState
without_current replica generations = map (left_by replica) generations

-- the generation that settings begin as: the replica's current one, which nothing holds
abbrev pub added_generation : (replica : ℕ) → List ConfigEntry → GenerationState
added_generation replica rows =
    record { replica = replica; rows = rows; current = true; holders = 0 }

-- the replica has the settings as its current ones
abbrev pub given_to : (replica : ℕ) → List ConfigEntry → List GenerationState
    → List GenerationState
given_to replica rows generations =
    without_current replica generations ++ added_generation replica rows ∷ []

-- it is the replica's current one
abbrev pub is_replica_current : ℕ → GenerationState → Bool
is_replica_current replica generation = generation.current && (generation.replica == replica)

abbrev pub held_more : GenerationState → GenerationState
held_more generation = record generation { holders = generation.holders + 1 }

abbrev pub held_less : GenerationState → GenerationState
held_less generation = record generation { holders = generation.holders - 1 }

-- the generation of the number is changed
abbrev pub changed_at : (GenerationState → GenerationState) → ℕ → List GenerationState
    → List GenerationState
changed_at change number [] = []
changed_at change zero (generation ∷ generations) = change generation ∷ generations
changed_at change (suc number) (generation ∷ generations) =
    generation ∷ changed_at change number generations

-- it is live, and has fewer holders than can be counted
abbrev pub MayHold : ℕ → List GenerationState → Type 0
MayHold number generations = IsSomeAnd (slice_get generations number)
    (λ generation. IsTrue (is_live generation) × (generation.holders + 1 < 2 ^ 32))

-- it is held
abbrev pub IsHeld : ℕ → List GenerationState → Type 0
IsHeld number generations =
    IsSomeAnd (slice_get generations number) (λ generation. 0 < generation.holders)

-- a replica has at most one current generation
unfoldable pub HasOneCurrent : List GenerationState → Type 0
HasOneCurrent generations =
    (replica : ℕ) → length (filter (is_replica_current replica) generations) ≤ 1

-- needs stand in the order of their paths, one a path
abbrev pub AreByPath : List Need → Type 0
AreByPath needs = IsStrictlySortedBy name_cmp (map (λ need. need.path) needs)

-- what is needed at the path
abbrev pub need_at : List Need → List ℕ → Option Need
need_at needs path = find (λ need. bytes_eq need.path path) needs

-- with this need at its path's place, instead of one that is there
abbrev pub set_need : List Need → Need → List Need
set_need [] need = need ∷ []
set_need (own ∷ needs) need = match_ordering (name_cmp need.path own.path)
    (need ∷ own ∷ needs)
    (need ∷ needs)
    (own ∷ set_need needs need)

-- without the need of the path
abbrev pub drop_need : List Need → List ℕ → List Need
drop_need [] path = []
drop_need (own ∷ needs) path = if bytes_eq own.path path then needs else own ∷ drop_need needs path

-- what a proposal leaves
abbrev pub settle_need : Bool → List Need → Option Need → List Need
settle_need keep needs None = needs
settle_need true needs (Some need) = set_need needs need
settle_need false needs (Some need) = needs
