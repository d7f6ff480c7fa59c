-- What the workers of a fleet have of the world, while it is out.
use Rattle.std.specs.Prelude.{◌≡◌, ◌≢◌, ◌<◌, ◌≤◌, ℕ, ◌+◌, List, [], ◌∷◌, ◌++◌, All, Contains, Option, Result, Ok, Err, length, map, ⊤}
use Rattle.std.specs.Option.{option_map}
use Rattle.kr_config.specs.Kept.{ConfigEntry}
use Rattle.kr_kms.specs.Calls.{Link}
use Rattle.kr_kms.specs.Outside.{Outside, same_seat}
use Rattle.kr_provider.specs.AskedLinks.{AskedOnly}
use Rattle.kr_provider.specs.Names.{names_of}
use Rattle.kr_provider.specs.PluginOrder.{plugin_order}
use Rattle.kr_cmd_steps.specs.Environment.{Environment, with_lent, with_world}
use Rattle.kr_cmd_steps.specs.Plugins.{borrow_links_of}
use Rattle.kr_cmd_steps.specs.Steps.{Steps, borrow_dice, give}
use Rattle.kr_cmd_fleet.specs.StartExchanges.{keys_at, keys_of}
use Rattle.kr_cmd_fleet.specs.declared.outfit.Outfit.{Outfit}
use Rattle.kr_cmd_steps.specs.declared.programs.Program.{Program}
use Rattle.kr_cmd_messages.specs.declared.refusal.Stop.{Stop}
use Rattle.kr_cmd_steps.specs.inner.Lent.{Tapes, lent_links, with_lent_dice, with_lent_links, with_tapes}
use Rattle.kr_cmd_steps.specs.inner.Phases.{Does}
use Rattle.kr_cmd_steps.specs.inner.ProgramNames.{names_in}

-- they are those of a configuration, each once
abbrev pub ArePlugins : List Program → Type 0
ArePlugins programs = (rows : List ConfigEntry) × (names_in programs ≡ plugin_order rows)

module _ {L D : Type 0} (link : L → Link) (left : D → Option (List ℕ)) (count : D → ℕ) where
  -- the outfits of the seats from this one on stand as if they were at home
  abbrev pub with_outfits : (seat : ℕ) → List (Outfit L D) → Environment → Environment
  with_outfits seat [] a = a
  with_outfits seat (outfit ∷ outfits) a = with_lent_links link seat outfit.links
      (with_lent_dice seat (left outfit.dice) (count outfit.dice)
      (with_outfits (seat + 1) outfits a))

module _ {L D : Type 0} (link : L → Link) where
  -- each has a link to each plugin, in this order
  abbrev pub AreNamed : List (List ℕ) → List (Outfit L D) → Type 0
  AreNamed names outfits = All (λ (o : Outfit L D). names_of link o.links ≡ names) outfits

  module _ (count : D → ℕ) where
    -- its links are the same plugins' and no count fell
    pub record IsLater (old new : Outfit L D) : Type 0 where
      pub links : AskedOnly link (names_of link old.links) old.links new.links
      pub dice : count old.dice ≤ count new.dice

    abbrev pub AreLater : (olds news : List (Outfit L D)) → Type 0
    AreLater [] [] = ⊤
    AreLater [] (new ∷ news) = ⊥
    AreLater (old ∷ olds) [] = ⊥
    AreLater (old ∷ olds) (new ∷ news) = IsLater old new × AreLater olds news

-- the links of each
abbrev pub links_of : {L D : Type 0} → List (Outfit L D) → List (List L)
links_of {L} {D} outfits = map (λ (outfit : Outfit L D). outfit.links) outfits

-- ---- what is out

-- the random source of the seat and its links to these plugins
pub record IsOut (names : List (List ℕ)) (seat : ℕ) (world : Outside) : Type 0 where
  pub dice : 0 < world.dice.out seat
  pub links : (name : List ℕ) → Contains names name → 0 < world.links.out (seat, name)

-- links of it that lead to these
abbrev pub HasOut : {L : Type 0} → (link : L → Link) → (seat : ℕ) → List L → Outside → Type 0
HasOut link seat links world = (name : List ℕ) → Contains (names_of link links) name
    → 0 < world.links.out (seat, name)

-- those of so many seats
abbrev pub AreOut : (names : List (List ℕ)) → (seats : ℕ) → Outside → Type 0
AreOut names seats world = (seat : ℕ) → seat < seats → IsOut names seat world

-- those that these outfits are
abbrev pub AreBorrowed : {L D : Type 0} → (link : L → Link) → List (Outfit L D) → Outside
    → Type 0
AreBorrowed link outfits world = (names : List (List ℕ)) × AreNamed link names outfits
    × AreOut names (length outfits) world

-- of other seats as many objects are out as before
pub record KeepsOthers (seat : ℕ) (old new : Outside) : Type 0 where
  pub dice : (other : ℕ) → other ≢ seat → new.dice.out other ≡ old.dice.out other
  pub links : (other : ℕ) (name : List ℕ) → other ≢ seat
      → new.links.out (other, name) ≡ old.links.out (other, name)

-- ---- borrowing

-- the steps that equip one seat
abbrev pub equipping_one : (seat : ℕ) → List Program → Steps (Unit {0})
equipping_one seat programs = borrow_dice seat (borrow_links_of seat programs (give tt))

module _ {L D : Type 0} (link : L → Link) (left : D → Option (List ℕ)) (count : D → ℕ) where
  -- while outfits of the first seats and the seat's random source are out, links of it were
  -- borrowed, all or some
  abbrev pub OpensLinks : (seat : ℕ) → List Program → (old new : Outside) → (links : List L)
      → Result (Unit {0}) Stop → Type 0
  OpensLinks seat programs old new links result = (dice : D) (front : List (Outfit L D))
      (tapes : Tapes) (a : Environment) → Does (borrow_links_of seat programs (give tt))
      (with_outfits link left count 0 front (with_lent_dice seat (left dice) (count dice)
      (with_world (with_tapes tapes old) a)))
      (with_outfits link left count 0 front
      (with_outfits link left count seat (record { links = links; dice = dice } ∷ [])
      (with_world (with_tapes tapes new) a))) result

  -- while those of the first seats are out, one of this seat was borrowed, or none is out
  abbrev pub Opens : (seat : ℕ) → List Program → (old new : Outside)
      → Result (Outfit L D) Stop → Type 0
  Opens seat programs old new (Ok outfit) = (front : List (Outfit L D)) (tapes : Tapes)
      (a : Environment) → Does (equipping_one seat programs)
      (with_outfits link left count 0 front (with_world (with_tapes tapes old) a))
      (with_outfits link left count 0 front
      (with_outfits link left count seat (outfit ∷ []) (with_world (with_tapes tapes new) a)))
      (Ok tt)
  Opens seat programs old new (Err stop) = (front : List (Outfit L D)) (tapes : Tapes)
      (a : Environment) → Does (equipping_one seat programs)
      (with_outfits link left count 0 front (with_world (with_tapes tapes old) a))
      (with_outfits link left count 0 front (with_world (with_tapes tapes new) a)) (Err stop)

-- ---- what was handed out

module _ {L : Type 0} (link : L → Link) (lent took : ℕ → L → Type 0) where
  -- beside these links of the seat some were handed out, and came back at once
  pub record LinksHanded (seat : ℕ) (old new : Outside) (links : List L) : Type 0 where
    pub lost : List L
    pub handed : new.links.handed
        ≡ option_map (λ keys. keys ++ keys_at link seat (links ++ lost)) old.links.handed
    pub lent_are : All (lent seat) lost
    pub took_are : All (took seat) lost

  -- just these were, or those
  abbrev pub HandsLinks : (seat : ℕ) → (old new : Outside) → (links : List L)
      → Result (Unit {0}) Stop → Type 0
  HandsLinks seat old new links (Ok done) = new.links.handed
      ≡ option_map (λ keys. keys ++ keys_at link seat links) old.links.handed
  HandsLinks seat old new links (Err stop) = LinksHanded seat old new links

  -- an outfit's, or all came back
  abbrev pub HandsOutfit : {D : Type 0} → (seat : ℕ) → (old new : Outside)
      → Result (Outfit L D) Stop → Type 0
  HandsOutfit seat old new (Ok outfit) = new.links.handed
      ≡ option_map (λ keys. keys ++ keys_at link seat outfit.links) old.links.handed
  HandsOutfit seat old new (Err stop) = LinksHanded seat old new []

  -- beside those of these outfits some of the next seat were handed out, and came back
  pub record OutfitsHanded (old new : Outside) (links : List (List L)) : Type 0 where
    pub lost : List L
    pub handed : new.links.handed
        ≡ option_map (λ keys. keys ++ keys_of link 0 (links ++ lost ∷ [])) old.links.handed
    pub lent_are : All (lent (length links)) lost
    pub took_are : All (took (length links)) lost

  abbrev pub HandsOutfits : (old new : Outside) → (links : List (List L))
      → Result (Unit {0}) Stop → Type 0
  HandsOutfits old new links (Ok done) = new.links.handed
      ≡ option_map (λ keys. keys ++ keys_of link 0 links) old.links.handed
  HandsOutfits old new links (Err stop) = OutfitsHanded old new links

-- ---- giving back

module _ {L : Type 0} (link : L → Link) where
  -- the links of the seat came back, and nothing else was done
  pub record LinksReturn (seat : ℕ) (old new : Outside) (links : List L) : Type 0 where
    pub links_are : new.links ≡ lent_links link seat links old.links
    pub file : new.file ≡ old.file
    pub faults : new.faults ≡ old.faults
    pub asked : new.asked ≡ old.asked
    pub tapes : new.tapes ≡ old.tapes
    pub dice : new.dice ≡ old.dice

  -- an outfit of it came back, and nothing else was done
  pub record OutfitReturn {D : Type 0} (left : D → Option (List ℕ)) (count : D → ℕ) (seat : ℕ)
      (old new : Outside) (outfit : Outfit L D) : Type 0 where
    pub links_are : new.links ≡ lent_links link seat outfit.links old.links
    pub dice_is : new.dice
        ≡ with_lent same_seat seat (left outfit.dice) (count outfit.dice) old.dice
    pub file : new.file ≡ old.file
    pub faults : new.faults ≡ old.faults
    pub asked : new.asked ≡ old.asked
    pub tapes : new.tapes ≡ old.tapes
