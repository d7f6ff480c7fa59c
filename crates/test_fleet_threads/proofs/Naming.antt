-- A configuration that names the plugin `p` alone.
use Rattle.std.proofs.Common.{◌≡◌, ℕ, suc, List, [], ◌∷◌, refl, sym, subst, arith, Contains, All}
use Rattle.std.proofs.lemmas.List.Elements.{All-cons, All-nil}
use Rattle.kr_config.specs.Kept.{ConfigEntry, plugins_in, rows_of}
use Rattle.kr_config.specs.declared.settings.Settings.{Settings}
use Rattle.kr_provider.specs.Names.{HasLinks}
use Rattle.kr_provider.specs.Publication.{Publication}
use Rattle.kr_rollout.specs.Openings.{NamesAmong}
use Rattle.test_fleet_threads.specs.Ready.{one_name}

there_later : {X : Type 0} (xs : List X) (x y : X) → Contains xs y → Contains (x ∷ xs) y
there_later xs x y c = (suc c.0, omega (arith, c.1), c.2)

from_each : {X : Type 0} (P : X → Type 0) (xs : List X) → ((x : X) → Contains xs x → P x) → All P xs
from_each P [] h = All-nil P
from_each P (x ∷ xs) h = All-cons P x xs (h x (0, omega arith, refl))
    (from_each P xs (λ y c. h y (there_later xs x y c)))

pub serves : (linked : List (List ℕ)) (asked settings : Settings) → asked ≡ settings
    → HasLinks linked (rows_of asked.entries.0) → HasLinks linked (rows_of settings.entries.0)
serves linked asked settings same h =
    subst (λ (s : Settings). HasLinks linked (rows_of s.entries.0)) same h

-- what just this link serves names no other plugin
pub names_it : (linked : List (List ℕ)) (p : Publication) (rows : List ConfigEntry) → linked ≡ one_name
    → p.rows ≡ rows → HasLinks linked rows → NamesAmong one_name p.rows
names_it linked p rows e same h = subst (NamesAmong one_name) (sym same)
    (from_each (λ name. Contains one_name name) (plugins_in rows)
    (λ name c. subst (λ l. Contains l name) e (h name c)))
