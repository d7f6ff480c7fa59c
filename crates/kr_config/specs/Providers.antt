-- Providers: their form, and when two of them have one prefix.
use Rattle.std.specs.Prelude.{ℕ, ◌==◌, ◌&&◌, ◌||◌, Bool, true, false, List, [], ◌∷◌, length}
use Rattle.std.specs.List.{flat_map}
use Rattle.std.specs.Str.{bytes_eq}
use Rattle.kr_base.specs.Rules.{is_name}
use Rattle.kr_config.specs.declared.who.Who.{Who}
use Rattle.kr_config.specs.declared.who.Who.TheVariants.{Identity, Aescbc, Aesgcm, Kms}

-- an AES key has 16, 24 or 32 bytes
abbrev pub is_secret : List ℕ → Bool
is_secret secret = (length secret == 16) || (length secret == 24) || (length secret == 32)

abbrev pub is_provider : Who → Bool
is_provider Identity = true
is_provider (Aescbc name secret) = is_name name && is_secret secret
is_provider (Aesgcm name secret) = is_name name && is_secret secret
is_provider (Kms name) = is_name name

abbrev pub is_key : Who → Bool
is_key Identity = false
is_key (Aescbc name secret) = true
is_key (Aesgcm name secret) = true
is_key (Kms name) = false

abbrev pub is_kms : Who → Bool
is_kms Identity = false
is_kms (Aescbc name secret) = false
is_kms (Aesgcm name secret) = false
is_kms (Kms name) = true

-- two providers of one kind and name write one prefix, whatever their secrets
abbrev pub rivals : Who → Who → Bool
rivals Identity Identity = true
rivals Identity (Aescbc b t) = false
rivals Identity (Aesgcm b t) = false
rivals Identity (Kms b) = false
rivals (Aescbc a s) Identity = false
rivals (Aescbc a s) (Aescbc b t) = bytes_eq a b
rivals (Aescbc a s) (Aesgcm b t) = false
rivals (Aescbc a s) (Kms b) = false
rivals (Aesgcm a s) Identity = false
rivals (Aesgcm a s) (Aescbc b t) = false
rivals (Aesgcm a s) (Aesgcm b t) = bytes_eq a b
rivals (Aesgcm a s) (Kms b) = false
rivals (Kms a) Identity = false
rivals (Kms a) (Aescbc b t) = false
rivals (Kms a) (Aesgcm b t) = false
rivals (Kms a) (Kms b) = bytes_eq a b

-- the name of a plugin
abbrev pub plugin_of : Who → List (List ℕ)
plugin_of Identity = []
plugin_of (Aescbc name secret) = []
plugin_of (Aesgcm name secret) = []
plugin_of (Kms name) = name ∷ []

abbrev pub plugins_among : List Who → List (List ℕ)
plugins_among providers = flat_map plugin_of providers
