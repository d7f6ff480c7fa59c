-- What links tell in their exchanges, one behind another.
use Rattle.std.proofs.Common.{◌≡◌, ℕ, List, [], ◌∷◌, ◌++◌, Option, Contains, refl, sym, ◌∙◌, ap, subst, arith}
use Rattle.std.specs.Prelude.{if◌then◌else◌, ⊤}
use Rattle.std.specs.List.{IsDistinct}
use Rattle.std.specs.Str.{bytes_eq}
use Rattle.std.proofs.lemmas.List.Elements.{Contains-append_right}
use Rattle.kr_base.specs.Walks.{Walk}
use Rattle.kr_kms.specs.Calls.{Link}
use Rattle.kr_kms.specs.Exchanges.{Exchange, KeepsLink, TellsAnswer, asked_name}
use Rattle.kr_kms.specs.Outside.{Objects, same_link}
use Rattle.kr_kms.specs.declared.plugin.Status.{Status}
use Rattle.kr_provider.specs.AskedLinks.{Among}
use Rattle.kr_provider.specs.Names.{AreDistinct, names_of}
use Rattle.kr_cmd_steps.specs.inner.Lent.{lent_links}
use Rattle.kr_cmd_steps.proofs.Links.{told_of}

-- each status is the told one of its plugin, and what was wrapped is within the limits
abbrev pub TellAll : (List ℕ → Option Status) → List Exchange → Type 0
TellAll status [] = ⊤
TellAll status (e ∷ es) = TellsAnswer (status (asked_name e)) e × TellAll status es

pub tell_parts : (status : List ℕ → Option Status) (first others : List Exchange)
    → TellAll status (first ++ others)
    → TellAll status first × TellAll status others
tell_parts status [] others t = (tt, t)
tell_parts status (e ∷ first) others t =
    let more = tell_parts status first others t.1 in ((t.0, more.0), more.1)

-- the status that a plugin's link tells
abbrev pub status_in : {L : Type 0} → (L → Link) → List L
    → Objects (ℕ × List ℕ) (Option Status) → List ℕ → Option Status
status_in link links objects name = (lent_links link 0 links objects).told (0, name)

module _ {L : Type 0} (link : L → Link) (old new : L) (named : (link new).name ≡ (link old).name)
    (tells : (link new).status ≡ (link old).status) (behind : List L) where
  names_kept : (front : List L)
      → names_of link (front ++ new ∷ behind) ≡ names_of link (front ++ old ∷ behind)
  names_kept [] = ap (λ n. n ∷ names_of link behind) named
  names_kept (first ∷ front) = ap (λ l. (link first).name ∷ l) (names_kept front)

  told_kept : (objects : Objects (ℕ × List ℕ) (Option Status)) (front : List L)
      → (lent_links link 0 (front ++ new ∷ behind) objects).told
      ≡ (lent_links link 0 (front ++ old ∷ behind) objects).told
  told_kept objects [] = λ i key. if same_link (0, named i) key then tells i
      else (lent_links link 0 behind objects).told key
  told_kept objects (first ∷ front) = λ i key.
      if same_link (0, (link first).name) key then (link first).status
      else told_kept objects front i key

module _ {L : Type 0} (link : L → Link) (step : L → Exchange → L → Type 0)
    (keeps : (old : L) (e : Exchange) (new : L) → step old e new
    → KeepsLink (link old) e (link new))
    (tells : (old : L) (e : Exchange) (new : L) → step old e new
    → TellsAnswer (link old).status e)
    (objects : Objects (ℕ × List ℕ) (Option Status)) where
  module _ (olds : List L) (e : Exchange) (news : List L) (a : Among step olds e news) where
    kept : KeepsLink (link a.old) e (link a.new)
    kept = keeps a.old e a.new a.steps

    still_distinct : AreDistinct link olds → AreDistinct link news
    still_distinct d = subst (IsDistinct bytes_eq)
        (ap (names_of link) a.olds_are
        ∙ sym (names_kept link a.old a.new kept.named kept.tells a.behind a.front)
        ∙ ap (names_of link) (sym a.news_are)) d

    still_told : status_in link news objects ≡ status_in link olds objects
    still_told =
        let by_name : (ℕ × List ℕ → Option Status) → List ℕ → Option Status =
        λ told name. told (0, name) in
        let of_links : List L → List ℕ → Option Status = λ l. status_in link l objects in
        ap of_links a.news_are
        ∙ ap by_name
        (told_kept link a.old a.new kept.named kept.tells a.behind objects a.front)
        ∙ ap of_links (sym a.olds_are)

    one_tells : AreDistinct link olds
        → TellsAnswer (status_in link olds objects (asked_name e)) e
    one_tells d =
        let there : Contains olds a.old = subst (λ l. Contains l a.old) (sym a.olds_are)
        (Contains-append_right a.front (a.old ∷ a.behind) a.old (0, omega arith, refl)) in
        let is : status_in link olds objects (asked_name e) ≡ (link a.old).status =
        ap (status_in link olds objects) kept.own ∙ told_of link 0 objects olds a.old d there in
        subst (λ s. TellsAnswer s e) (sym is) (tells a.old e a.new a.steps)

  pub walk_tells : (olds : List L) (es : List Exchange) (news : List L) → AreDistinct link olds
      → Walk (Among step) olds es news → TellAll (status_in link olds objects) es
  walk_tells olds [] news d w = tt
  walk_tells olds (e ∷ es) news d (mid, s, w) = (
    one_tells olds e mid s d,
    subst (λ (status : List ℕ → Option Status). TellAll status es)
        (still_told olds e mid s)
        (walk_tells mid es news (still_distinct olds e mid s d) w),
  )
