-- What a bench's pages hold, call after call.
use Rattle.std.specs.Prelude.{◌≡◌, ℕ, ◌<◌, ◌≤◌, ◌⊎◌, nat_lt, if◌then◌else◌, Bool, true, false, List, [], ◌∷◌, Option, Some, None}
use Rattle.kr_base.specs.Walks.{Walk}
use Rattle.kr_config.specs.Kept.{count_entry_keys}
use Rattle.kr_provider.specs.BenchState.{Adoption, BenchState}
use Rattle.kr_provider.specs.KeyPages.{HoldKeys, adopted_secrets, free_pages, secrets_in, size_of}
use Rattle.kr_provider.specs.Publication.{Publication}

-- the configuration that a bench adopted, and its pages
abbrev pub adoption_of : {L D : Type 0} → BenchState L D → Adoption
adoption_of bench = record { published = bench.published; pages = bench.pages }

-- this configuration is adopted then, and of as many pages one for each of its keys holds that
-- key's schedule, and every other is free and zero
pub record TakesKeys (p : Publication) (old new : Adoption) : Type 0 where
  pub published : new.published ≡ Some p
  pub keys : HoldKeys (secrets_in p.rows) new.pages
  pub size : size_of new.pages ≡ size_of old.pages

-- no configuration is adopted then, and each of as many pages is free and zero
pub record ClearsKeys (old new : Adoption) : Type 0 where
  pub none : new.published ≡ None
  pub keys : HoldKeys [] new.pages
  pub size : size_of new.pages ≡ size_of old.pages

-- what a call leaves that adopts at most for itself: no key where it adopted, or else all as it was
abbrev pub LeavesKeys : (adopted : Bool) → (old new : Adoption) → Type 0
LeavesKeys true old new = ClearsKeys old new
LeavesKeys false old new = new ≡ old

-- ---- what a bench is asked for, one call after another

pub data BenchCall : Type 0 where
  AdoptCall : Publication → BenchCall
  LetGoCall : BenchCall
  SealCall : BenchCall
  UnsealCall : BenchCall
  KeyIdCall : BenchCall
  PublishCall : BenchCall

-- the configuration is adopted, and each of its keys has a page
pub record AdoptsIt {L D : Type 0} (p : Publication) (old new : BenchState L D) : Type 0 where
  pub room : count_entry_keys p.rows ≤ size_of old.pages
  pub kept : new ≡ record old { published = Some p; pages = new.pages }
  pub keys : HoldKeys (secrets_in p.rows) new.pages
  pub size : size_of new.pages ≡ size_of old.pages

-- what each call does to a bench, as its contract says it; sealing and unsealing in place too
abbrev pub Does : {L D : Type 0} → BenchState L D → BenchCall → BenchState L D → Type 0
Does old (AdoptCall p) new = ((size_of old.pages < count_entry_keys p.rows) × (new ≡ old))
    ⊎ AdoptsIt p old new
Does old LetGoCall new = (new ≡ record old { published = None; pages = new.pages })
    × ClearsKeys (adoption_of old) (adoption_of new)
Does old SealCall new = new ≡ record old { dice = new.dice }
Does old UnsealCall new = new ≡ record old { links = new.links; cache = new.cache }
Does old KeyIdCall new = new ≡ record old { links = new.links }
Does old PublishCall new = new ≡ record old { links = new.links; dice = new.dice }

-- the configuration that is adopted after a call on a bench with so many pages, by the one before;
-- one with more keys is refused
abbrev pub adopted_after_call : ℕ → Option Publication → BenchCall → Option Publication
adopted_after_call size held (AdoptCall p) = if nat_lt size (count_entry_keys p.rows) then held
    else Some p
adopted_after_call size held LetGoCall = None
adopted_after_call size held SealCall = held
adopted_after_call size held UnsealCall = held
adopted_after_call size held KeyIdCall = held
adopted_after_call size held PublishCall = held

-- so that after some calls is the one that was adopted last and not let go since
abbrev pub after_calls : ℕ → Option Publication → List BenchCall → Option Publication
after_calls size held [] = held
after_calls size held (call ∷ calls) = after_calls size (adopted_after_call size held call) calls

-- this configuration is adopted, if it is one; of so many pages one for each key holds that key's
-- schedule, and every other is free and zero
pub record HoldsExactly (size : ℕ) (held : Option Publication) (now : Adoption) : Type 0 where
  pub published : now.published ≡ held
  pub keys : HoldKeys (adopted_secrets held) now.pages
  pub as_many : size_of now.pages ≡ size

-- a bench that adopted nothing yet is asked for one thing after another: at every moment between
-- two of them, whatever bench these calls lead to holds exactly what it adopted last and didn't let
-- go since
abbrev pub PagesFollowCalls : (L D : Type 0) → Type 0
PagesFollowCalls L D = (size : ℕ) (old : BenchState L D) (calls : List BenchCall)
    (now : BenchState L D) → old.published ≡ None → old.pages ≡ free_pages size
    → Walk Does old calls now
    → HoldsExactly size (after_calls size None calls) (adoption_of now)
