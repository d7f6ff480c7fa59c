-- Publishing, name by name in their order.
use Rattle.std.proofs.Common.{ℕ, true, List, [], ◌∷◌, ◌++◌, map, refl, sym, ◌∙◌, subst, append_assoc}
use Rattle.std.specs.Prelude.{Option, Some, None, All}
use Rattle.std.specs.Io.KnownBytes.{Consumes}
use Rattle.std.proofs.lemmas.List.Elements.{All-head, All-tail}
use Rattle.kr_config.specs.Kept.{ConfigEntry, plugins_in}
use Rattle.kr_kms.specs.Calls.{Link}
use Rattle.kr_kms.specs.Seeds.{IsSeedRow}
use Rattle.kr_kms.specs.declared.seeds.SeedRow.{SeedRow}
use Rattle.kr_provider.specs.AskedLinks.{HasLinkWith}
use Rattle.kr_provider.specs.PluginOrder.{MakesBefore, MakesEach, plugin_order}
use Rattle.kr_provider.specs.Publishing.{AreSeedsOf, EndsAt, IsHealthy, bytes_of_seeds}
use Rattle.kr_provider.proofs.PluginOrder.{one_order, order_ascends, order_before, order_has}

-- bytes that were drawn in one were drawn one part behind the other
pub parted : (old new : Option (List ℕ)) (front behind : List ℕ) → Consumes old new (front ++ behind)
    → (rest : Option (List ℕ)) × Consumes old rest front × Consumes rest new behind
parted None new front behind c = (None, tt, tt)
parted (Some x) None front behind c = absurd c
parted (Some x) (Some y) front behind c =
    (Some (behind ++ y), c ∙ append_assoc front behind y, refl)

module _ {L : Type 0} (link : L → Link) (links : List L) where
  abbrev WasHealthy : SeedRow → Type 0
  WasHealthy row = HasLinkWith link row.name IsHealthy links

  each : (made : List SeedRow) (old new : Option (List ℕ)) → All IsSeedRow made
      → All WasHealthy made → Consumes old new (bytes_of_seeds made)
      → MakesEach link links (map (λ row. row.name) made) made old new
  each [] old new rows healthy c = c
  each (row ∷ made) old new rows healthy c =
      let parts = parted old new row.seed (bytes_of_seeds made) c in (
        record {
          name_is = refl;
          healthy = All-head WasHealthy row made healthy;
          row_is = All-head IsSeedRow row made rows;
        },
        (
          parts.0,
          parts.1,
          each made parts.0 new (All-tail IsSeedRow row made rows)
              (All-tail WasHealthy row made healthy) parts.2,
        ),
      )

module _ {L D : Type 0} (link : L → Link) (left : D → Option (List ℕ))
    (count : D → ℕ) where
  pub all_in_order : (rows : List ConfigEntry) (links : List L) (dice after : D) (made : List SeedRow)
      → AreSeedsOf link links (plugins_in rows) (λ name. true) made
      → Consumes (left dice) (left after) (bytes_of_seeds made)
      → MakesEach link links (plugin_order rows) made (left dice) (left after)
  all_in_order rows links dice after made s c =
      let names = plugins_in rows in
      subst (λ order. MakesEach link links order made (left dice) (left after))
      (sym (one_order (plugin_order rows) (map (λ row. row.name) made) (order_ascends names)
      s.ascend (λ x d. (order_has names x).1 ((s.named x).0 d).0)
      (λ x d. (s.named x).1 ((order_has names x).0 d, refl))))
      (each link links made (left dice) (left after) s.rows s.healthy c)

  pub some_in_order : (rows : List ConfigEntry) (links : List L) (dice after : D) (name drawn : List ℕ)
      → EndsAt link left count rows links dice after name drawn
      → MakesBefore link links (plugin_order rows) name drawn (left dice) (left after)
  some_in_order rows links dice after name drawn e =
      let names = plugins_in rows in
      let parts = parted (left dice) (left after) (bytes_of_seeds e.made) drawn e.draws in
      let rest = order_before (plugin_order rows) (map (λ row. row.name) e.made) name
      (order_ascends names) e.seeds.ascend ((order_has names name).1 e.there)
      (λ x d. let n = (e.seeds.named x).0 d in ((order_has names x).1 n.0, n.1))
      (λ x d b. (e.seeds.named x).1 ((order_has names x).0 d, b)) in record {
        front = map (λ row. row.name) e.made;
        behind = rest.0;
        names_are = rest.1;
        made = e.made;
        rest = parts.0;
        makes = each link links e.made (left dice) parts.0 e.seeds.rows e.seeds.healthy
            parts.1;
        draws = parts.2;
      }
