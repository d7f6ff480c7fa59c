-- What a rollout keeps of its replicas, made one by one.
use Rattle.std.proofs.Common.{◌≡◌, ℕ, suc, ◌<◌, ◌≤◌, ◌+◌, List, [], ◌∷◌, ◌++◌, length, get_or, take, Option, None, Some, IfSome, refl, sym, ap, subst, ◌∙◌, arith, length-take}
use Rattle.std.specs.Prelude.{All}
use Rattle.std.specs.Option.{option_map}
use Rattle.std.proofs.lemmas.List.{take_all, map-append, append-nil}
use Rattle.std.proofs.lemmas.List.Elements.{All-nil, All-push}
use Rattle.kr_config.specs.declared.settings.Settings.{Settings}
use Rattle.kr_provider.specs.Publication.{Publication, IsPublished}
use Rattle.kr_judge.proofs.Parts.{take_at_more}
use Rattle.kr_opening.specs.declared.generation.Generation.{Generation}
use Rattle.kr_opening.specs.Replicas.{generations_from, current_from, settings_of, rows_in, settings_rows}
use Rattle.kr_opening.specs.inner.OpeningBoards.{generation_at, joined_number, next_joined_number}

-- ---- numbers

-- how many of them are in
abbrev in_count : List (Option Publication) → ℕ
in_count [] = 0
in_count (None ∷ rs) = in_count rs
in_count (Some p ∷ rs) = suc (in_count rs)

in_gap : (rs : List (Option Publication)) → in_count (rs ++ None ∷ []) ≡ in_count rs
in_gap [] = refl
in_gap (None ∷ rs) = in_gap rs
in_gap (Some p ∷ rs) = ap suc (in_gap rs)

in_more : (rs : List (Option Publication)) (p : Publication)
    → in_count (rs ++ Some p ∷ []) ≡ suc (in_count rs)
in_more [] p = refl
in_more (None ∷ rs) p = in_more rs p
in_more (Some q ∷ rs) p = ap suc (in_more rs p)

current_gap : (m : ℕ) (rs : List (Option Publication))
    → current_from m (rs ++ None ∷ []) ≡ current_from m rs ++ None ∷ []
current_gap m [] = refl
current_gap m (None ∷ rs) = ap (λ l. None ∷ l) (current_gap m rs)
current_gap m (Some p ∷ rs) = ap (λ l. Some m ∷ l) (current_gap (m + 1) rs)

current_more : (m n : ℕ) (rs : List (Option Publication)) (p : Publication) → m + in_count rs ≡ n
    → current_from m (rs ++ Some p ∷ []) ≡ current_from m rs ++ Some n ∷ []
current_more m n [] p e = ap (λ k. Some k ∷ []) (omega (arith, e))
current_more m n (None ∷ rs) p e = ap (λ l. None ∷ l) (current_more m n rs p e)
current_more m n (Some q ∷ rs) p e = ap (λ l. Some m ∷ l)
    (current_more (m + 1) n rs p (omega (arith, e)))

pub record AreNumbered (rs : List (Option Publication)) (current : List (Option ℕ))
    (number i : ℕ) : Type 0 where
  pub is : current ≡ current_from 0 (take i rs)
  pub number_is : number ≡ in_count (take i rs)
  pub few : number ≤ i

pub numbered_begin : (rs : List (Option Publication)) → AreNumbered rs [] 0 0
numbered_begin rs = record { is = refl; number_is = refl; few = omega arith }

numbered_gap : (rs : List (Option Publication)) (current : List (Option ℕ)) (number i : ℕ)
    → AreNumbered rs current number i → i < length rs → None ≡ get_or rs i None
    → AreNumbered rs (current ++ None ∷ []) number (i + 1)
numbered_gap rs current number i n l e =
    let more = take_at_more rs i None l e in
    record {
      is = ap (λ c. c ++ None ∷ []) n.is ∙ sym (ap (current_from 0) more
          ∙ current_gap 0 (take i rs));
      number_is = n.number_is ∙ sym (ap in_count more ∙ in_gap (take i rs));
      few = omega (arith, n.few);
    }

numbered_more : (rs : List (Option Publication)) (current : List (Option ℕ)) (number i : ℕ)
    (p : Publication) → AreNumbered rs current number i → i < length rs
    → Some p ≡ get_or rs i (Some p)
    → AreNumbered rs (current ++ Some number ∷ []) (number + 1) (i + 1)
numbered_more rs current number i p n l e =
    let more = take_at_more rs i (Some p) l e in
    record {
      is = ap (λ c. c ++ Some number ∷ []) n.is
          ∙ sym (ap (current_from 0) more ∙ current_more 0 number (take i rs) p
          (omega (arith, n.number_is)));
      number_is = omega (arith, n.number_is, ap in_count more, in_more (take i rs) p);
      few = omega (arith, n.few);
    }

pub numbered_step : (rs : List (Option Publication)) (current : List (Option ℕ)) (number i : ℕ)
    (r : Option Publication) → AreNumbered rs current number i → i < length rs → r ≡ get_or rs i r
    → AreNumbered rs (current ++ joined_number r number ∷ []) (next_joined_number r number) (i + 1)
numbered_step rs current number i None n l e = numbered_gap rs current number i n l e
numbered_step rs current number i (Some p) n l e = numbered_more rs current number i p n l e

pub numbered_end : (rs : List (Option Publication)) (current : List (Option ℕ)) (number i : ℕ)
    → AreNumbered rs current number i → length rs ≤ i → current ≡ current_from 0 rs
numbered_end rs current number i n l = n.is ∙ ap (current_from 0) (take_all i rs l)

pub numbered_room : (rs : List (Option Publication)) (current : List (Option ℕ)) (number i : ℕ)
    → AreNumbered rs current number i → number ≤ i
numbered_room rs current number i n = n.few

-- ---- settings

pub record AreShared (rs : List (Option Publication)) (settings : List (Option Settings))
    (i : ℕ) : Type 0 where
  pub is : rows_in settings ≡ settings_of (take i rs)
  pub published : All (λ replica. IfSome replica IsPublished) (take i rs)

pub shared_begin : (rs : List (Option Publication)) → AreShared rs [] 0
shared_begin rs = record { is = refl; published = All-nil (λ replica. IfSome replica IsPublished) }

pub shared_more : (rs : List (Option Publication)) (settings : List (Option Settings)) (i : ℕ)
    (r : Option Publication) (s : Option Settings) → AreShared rs settings i → i < length rs
    → r ≡ get_or rs i r → settings_rows s ≡ option_map (λ (p : Publication). p.rows) r
    → IfSome r IsPublished → AreShared rs (settings ++ s ∷ []) (i + 1)
shared_more rs settings i r s a l e same p = record {
  is = map-append settings_rows settings (s ∷ [])
      ∙ ap (λ x. x ++ settings_rows s ∷ []) a.is
      ∙ ap (λ x. settings_of (take i rs) ++ x ∷ []) same
      ∙ sym (ap settings_of (take_at_more rs i r l e)
      ∙ map-append (option_map (λ (p : Publication). p.rows)) (take i rs) (r ∷ []));
  published = subst (λ l. All (λ replica. IfSome replica IsPublished) l)
      (sym (take_at_more rs i r l e))
      (All-push (λ replica. IfSome replica IsPublished) (take i rs) r a.published p);
}

pub shared_end : (rs : List (Option Publication)) (settings : List (Option Settings)) (i : ℕ)
    → AreShared rs settings i → length rs ≤ i → rows_in settings ≡ settings_of rs
shared_end rs settings i a l = a.is ∙ ap settings_of (take_all i rs l)

pub shared_published : (rs : List (Option Publication)) (settings : List (Option Settings)) (i : ℕ)
    → AreShared rs settings i → length rs ≤ i → All (λ replica. IfSome replica IsPublished) rs
shared_published rs settings i a l = subst (λ l. All (λ replica. IfSome replica IsPublished) l)
    (take_all i rs l) a.published

-- ---- generations

generations_gap : (k : ℕ) (rs : List (Option Publication))
    → generations_from k (rs ++ None ∷ []) ≡ generations_from k rs
generations_gap k [] = refl
generations_gap k (None ∷ rs) = generations_gap (k + 1) rs
generations_gap k (Some p ∷ rs) = ap (λ l. record { replica = k; published = p } ∷ l)
    (generations_gap (k + 1) rs)

generations_more : (k n : ℕ) (rs : List (Option Publication)) (p : Publication) → k + length rs ≡ n
    → generations_from k (rs ++ Some p ∷ [])
    ≡ generations_from k rs ++ record { replica = n; published = p } ∷ []
generations_more k n [] p e = ap (λ r. record { replica = r; published = p } ∷ [])
    (omega (arith, e))
generations_more k n (None ∷ rs) p e = generations_more (k + 1) n rs p (omega (arith, e))
generations_more k n (Some q ∷ rs) p e = ap (λ l. record { replica = k; published = q } ∷ l)
    (generations_more (k + 1) n rs p (omega (arith, e)))

pub record AreMade (rs : List (Option Publication)) (generations : List Generation)
    (i : ℕ) : Type 0 where
  pub is : generations ≡ generations_from 0 (take i rs)

pub made_begin : (rs : List (Option Publication)) → AreMade rs [] 0
made_begin rs = record { is = refl }

made_gap : (rs : List (Option Publication)) (generations : List Generation) (i : ℕ)
    → AreMade rs generations i → i < length rs → None ≡ get_or rs i None
    → AreMade rs generations (i + 1)
made_gap rs generations i a l e = record {
  is = a.is
      ∙ sym (ap (generations_from 0) (take_at_more rs i None l e) ∙ generations_gap 0 (take i rs));
}

made_more : (rs : List (Option Publication)) (generations : List Generation) (i : ℕ)
    (p : Publication) → AreMade rs generations i → i < length rs → Some p ≡ get_or rs i (Some p)
    → AreMade rs (generations ++ record { replica = i; published = p } ∷ []) (i + 1)
made_more rs generations i p a l e = record {
  is = ap (λ g. g ++ record { replica = i; published = p } ∷ []) a.is
      ∙ sym (ap (generations_from 0) (take_at_more rs i (Some p) l e)
      ∙ generations_more 0 i (take i rs) p (omega (arith, length-take i rs)));
}

pub made_step : (rs : List (Option Publication)) (generations : List Generation) (i : ℕ)
    (r : Option Publication) → AreMade rs generations i → i < length rs → r ≡ get_or rs i r
    → AreMade rs (generations ++ generation_at i r) (i + 1)
made_step rs generations i None a l e = subst (λ g. AreMade rs g (i + 1))
    (sym (append-nil generations)) (made_gap rs generations i a l e)
made_step rs generations i (Some p) a l e = made_more rs generations i p a l e

pub made_all : (rs : List (Option Publication)) (generations kept later : List Generation) (i : ℕ)
    → AreMade rs generations i → length rs ≤ i → kept ≡ generations → later ≡ kept
    → later ≡ generations_from 0 rs
made_all rs generations kept later i a l e f = f ∙ e ∙ a.is ∙ ap (generations_from 0) (take_all i rs l)
