-- The keys of the links that were handed out.
use Rattle.std.proofs.Common.{◌≡◌, ℕ, suc, ◌+◌, List, [], ◌∷◌, ◌++◌, length, Option, None, Some, append-nil, append_assoc, refl, sym, ◌∙◌, ap, arith}
use Rattle.std.specs.Option.{option_map}
use Rattle.std.specs.Prelude.{All}
use Rattle.std.proofs.lemmas.List.Elements.{All-append, All-nil}
use Rattle.kr_kms.specs.Calls.{Link}
use Rattle.kr_kms.specs.Outside.{KeepsObjects, Outside}
use Rattle.kr_cmd_fleet.specs.StartExchanges.{keys_at, keys_of}
use Rattle.kr_cmd_fleet.specs.declared.outfit.Outfit.{Outfit}
use Rattle.kr_cmd_fleet.specs.inner.Outfits.{LinksHanded, OutfitsHanded, links_of}
use Rattle.kr_cmd_fleet.proofs.Outfits.{LinksOf}
use Rattle.kr_cmd_steps.specs.inner.Lent.{lent_links}

module _ {K : Type 0} where
  abbrev pub With : List K → Option (List K) → Option (List K)
  With more handed = option_map (λ keys. keys ++ more) handed

  pub handed_none : (handed : Option (List K)) → handed ≡ With [] handed
  handed_none None = refl
  handed_none (Some keys) = ap (λ ks. Some ks) (sym (append-nil keys))

  with_both : (xs ys : List K) (handed : Option (List K))
      → With ys (With xs handed) ≡ With (xs ++ ys) handed
  with_both xs ys None = refl
  with_both xs ys (Some keys) = ap (λ ks. Some ks) (append_assoc keys xs ys)

  -- some behind others
  pub handed_then : (xs ys : List K) (old : Option (List K)) {mid new : Option (List K)} → mid ≡ With xs old
      → new ≡ With ys mid → new ≡ With (xs ++ ys) old
  handed_then xs ys old first others =
      others ∙ ap (With ys) first ∙ with_both xs ys old

module _ {L : Type 0} (link : L → Link) where
  pub keys_end : (seat : ℕ) (links : List L) (last : L)
      → keys_at link seat (links ++ last ∷ []) ≡ keys_at link seat links
      ++ (seat, (link last).name) ∷ []
  keys_end seat [] last = refl
  keys_end seat (first ∷ links) last =
      ap (λ keys. (seat, (link first).name) ∷ keys) (keys_end seat links last)

  -- one more seat is the last
  pub keys_push : (seat at : ℕ) (front : List (List L)) (last : List L)
      → at ≡ seat + length front
      → keys_of link seat (front ++ last ∷ []) ≡ keys_of link seat front ++ keys_at link at last
  keys_push seat at [] last e = append-nil (keys_at link seat last)
      ∙ ap (λ s. keys_at link s last) (let here : seat ≡ at = omega (arith, e) in here)
  keys_push seat at (links ∷ front) last e =
      ap (λ keys. keys_at link seat links ++ keys)
      (keys_push (suc seat) at front last (omega (arith, e)))
      ∙ sym (append_assoc (keys_at link seat links) (keys_of link (suc seat) front)
      (keys_at link at last))

  -- links that came back were handed out before
  pub lent_handed : (seat : ℕ) (links : List L) (objects : LinksOf)
      → (lent_links link seat links objects).handed ≡ objects.handed
  lent_handed seat [] objects = refl
  lent_handed seat (first ∷ links) objects = lent_handed seat links objects

module _ {L D : Type 0} where
  pub links_push : (front : List (Outfit L D)) (last : Outfit L D)
      → links_of (front ++ last ∷ []) ≡ links_of front ++ last.links ∷ []
  links_push [] last = refl
  links_push (outfit ∷ front) last = ap (λ l. outfit.links ∷ l) (links_push front last)

  pub links_long : (outfits : List (Outfit L D)) → length (links_of outfits) ≡ length outfits
  links_long [] = refl
  links_long (outfit ∷ outfits) = ap (λ n. suc n) (links_long outfits)

-- ---- what came back at once

module _ {L : Type 0} (link : L → Link) (lent took : ℕ → L → Type 0) (seat : ℕ) where
  -- no link was handed out
  pub none_handed : {old new : Outside} → KeepsObjects old new
      → LinksHanded link lent took seat old new []
  none_handed {old} objects = record {
    lost = [];
    handed = ap (λ (o : LinksOf). o.handed) objects.links ∙ handed_none old.links.handed;
    lent_are = All-nil (lent seat);
    took_are = All-nil (took seat);
  }

  -- all were given back
  pub all_back : (links : List L) {old mid now new : Outside} → mid.links ≡ old.links
      → LinksHanded link lent took seat mid now links
      → new.links ≡ lent_links link seat links now.links → All (lent seat) links
      → All (took seat) links → LinksHanded link lent took seat old new []
  all_back links {now = now} same h back given taken = record {
    lost = links ++ h.lost;
    handed = ap (λ (o : LinksOf). o.handed) back ∙ lent_handed link seat links now.links
        ∙ h.handed ∙ ap (λ (o : LinksOf). With (keys_at link seat (links ++ h.lost)) o.handed) same;
    lent_are = All-append (lent seat) links h.lost given h.lent_are;
    took_are = All-append (took seat) links h.lost taken h.took_are;
  }

-- no outfit is there
pub none_outfits : {L : Type 0} (link : L → Link) (lent took : ℕ → L → Type 0) (world : Outside)
    → OutfitsHanded link lent took world world []
none_outfits link lent took world = record {
  lost = [];
  handed = handed_none world.links.handed;
  lent_are = All-nil (lent 0);
  took_are = All-nil (took 0);
}
