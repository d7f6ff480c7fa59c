-- What the types of settings keep: a secret's bytes are below 256.
use Rattle.std.specs.Prelude.{◌<◌, List, All, ⊤}
use Rattle.kr_config.specs.declared.who.Who.{Who}
use Rattle.kr_config.specs.declared.who.Who.TheVariants.{Identity, Aescbc, Aesgcm, Kms}
use Rattle.kr_config.specs.Kept.{ConfigEntry}

abbrev pub IsOfBytes : Who → Type 0
IsOfBytes Identity = ⊤
IsOfBytes (Aescbc name secret) = All (λ byte. byte < 256) secret
IsOfBytes (Aesgcm name secret) = All (λ byte. byte < 256) secret
IsOfBytes (Kms name) = ⊤

abbrev pub AreOfBytes : List ConfigEntry → Type 0
AreOfBytes rows = All (λ row. All IsOfBytes row.providers) rows
