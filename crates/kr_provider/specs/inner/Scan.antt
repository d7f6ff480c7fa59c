-- Where the key of a provider stands among the keys of all entries.
use Rattle.std.specs.Prelude.{◌≡◌, ℕ, suc, Bool, true, if◌then◌else◌, List, [], ◌∷◌, Contains, Option, Some, None, IsSome, ⊤}
use Rattle.std.specs.List.{list_any}
use Rattle.std.specs.Str.{bytes_eq}
use Rattle.kr_aes.specs.KeyExpansion.{padded_schedule}
use Rattle.kr_config.specs.declared.who.Who.{Who}
use Rattle.kr_config.specs.declared.who.Who.TheVariants.{Identity, Aescbc, Aesgcm, Kms}
use Rattle.kr_kms.specs.Calls.{Link}
use Rattle.kr_kms.specs.declared.seeds.SeedRow.{SeedRow}
use Rattle.kr_provider.specs.Publication.{seed_of}

-- the first place of the secret, where the first of the list counts as `n`
abbrev pub place_from : (n : ℕ) → (secrets : List (List ℕ)) → (secret : List ℕ) → Option ℕ
place_from n [] secret = None
place_from n (first ∷ rest) secret = if bytes_eq first secret then Some n else place_from
    (suc n) rest secret

-- the provider's secret, if it has one, is one of these
abbrev pub IsAmong : List (List ℕ) → Who → Type 0
IsAmong secrets Identity = ⊤
IsAmong secrets (Aescbc name secret) = list_any (λ s. bytes_eq s secret) secrets ≡ true
IsAmong secrets (Aesgcm name secret) = list_any (λ s. bytes_eq s secret) secrets ≡ true
IsAmong secrets (Kms name) = ⊤

abbrev pub AreAmong : List (List ℕ) → List Who → Type 0
AreAmong secrets [] = ⊤
AreAmong secrets (who ∷ list) = IsAmong secrets who × AreAmong secrets list

-- the words are those of the provider's key; one that has no key makes no use of them
abbrev pub HasWords : Who → (words : List ℕ) → Type 0
HasWords Identity words = ⊤
HasWords (Aescbc name secret) words = words ≡ padded_schedule secret
HasWords (Aesgcm name secret) words = words ≡ padded_schedule secret
HasWords (Kms name) words = ⊤

-- a plugin's name is one of these
abbrev pub IsNamedIn : List (List ℕ) → Who → Type 0
IsNamedIn names Identity = ⊤
IsNamedIn names (Aescbc name secret) = ⊤
IsNamedIn names (Aesgcm name secret) = ⊤
IsNamedIn names (Kms name) = Contains names name

abbrev pub AreNamedIn : List (List ℕ) → List Who → Type 0
AreNamedIn names [] = ⊤
AreNamedIn names (who ∷ list) = IsNamedIn names who × AreNamedIn names list

-- a plugin has its seed
abbrev pub HasSeed : List SeedRow → Who → Type 0
HasSeed seeds Identity = ⊤
HasSeed seeds (Aescbc name secret) = ⊤
HasSeed seeds (Aesgcm name secret) = ⊤
HasSeed seeds (Kms name) = IsSome (seed_of name seeds)

-- each plugin has its seed
abbrev pub HaveSeeds : List SeedRow → List Who → Type 0
HaveSeeds seeds [] = ⊤
HaveSeeds seeds (who ∷ list) = HasSeed seeds who × HaveSeeds seeds list

-- the provider is no plugin, or there is a link to it
abbrev pub is_served : {L : Type 0} → (L → Link) → List L → Who → Bool
is_served link links Identity = true
is_served link links (Aescbc name secret) = true
is_served link links (Aesgcm name secret) = true
is_served link links (Kms name) = list_any (λ l. bytes_eq (link l).name name) links
