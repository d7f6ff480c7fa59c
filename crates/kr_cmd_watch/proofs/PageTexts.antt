-- Pages that are taken one after another, and their text.
use Rattle.std.proofs.Common.{◌≡◌, ℕ, ◌+◌, ◌<◌, ◌≤◌, List, [], ◌∷◌, ◌++◌, length, take, get_or, codes, append-nil, append_assoc, length-append, None, Some, refl, sym, ◌∙◌, ap, subst, arith}
use Rattle.std.specs.Prelude.{All, decimal}
use Rattle.std.specs.List.{flat_map}
use Rattle.std.proofs.lemmas.Grind.{flat_map-append}
use Rattle.std.proofs.lemmas.List.{take_all, take_more}
use Rattle.std.proofs.lemmas.List.Elements.{All-append, All-cons, All-nil}
use Rattle.std.proofs.lemmas.Option.{same_Some}
use Rattle.kr_script.specs.Output.{two}
use Rattle.kr_watch.specs.Pages.{AreTaken, IsPage, Taken, items_above}
use Rattle.kr_watch.specs.Shown.{AreInOrder}
use Rattle.kr_watch.specs.declared.item.Item.{Item}
use Rattle.kr_watch.specs.declared.page.Listing.{Listing}
use Rattle.kr_watch.proofs.Orders.{rise}
use Rattle.kr_watch.proofs.PagesTaken.{PageCase, full, page_case, rest_behind, whole}
use Rattle.kr_cmd_watch.specs.WatchTexts.{ShowsPages, end_line, line, page_text, pages_text}

-- ---- the lines of some things

module _ {X : Type 0} (line_of : X → List ℕ) where
  -- behind what was there stand the lines of so many of them
  abbrev pub HasLines : (front : List ℕ) → List X → (number : ℕ) → (text : List ℕ) → Type 0
  HasLines front xs number text = text ≡ front ++ flat_map line_of (take number xs)

  pub lines_none : (front text : List ℕ) (xs : List X) → text ≡ front → HasLines front xs 0 text
  lines_none front text xs e = e ∙ sym (append-nil front)

  pub lines_more : (front text new : List ℕ) (xs : List X) (number : ℕ) (x : X)
      → HasLines front xs number text → number < length xs → x ≡ get_or xs number x
      → new ≡ text ++ line_of x → HasLines front xs (number + 1) new
  lines_more front text new xs number x h below is e =
      e ∙ ap (λ t. t ++ line_of x) h
      ∙ append_assoc front (flat_map line_of (take number xs)) (line_of x)
      ∙ ap (λ l. front ++ l)
      (ap (λ l. flat_map line_of (take number xs) ++ l) (sym (append-nil (line_of x)))
      ∙ sym (flat_map-append line_of (take number xs) (x ∷ []))
      ∙ ap (λ l. flat_map line_of l)
      (ap (λ y. take number xs ++ y ∷ []) is ∙ sym (take_more xs number x below)))

  pub lines_all : (front text : List ℕ) (xs : List X) (number : ℕ)
      → HasLines front xs number text → length xs ≤ number
      → text ≡ front ++ flat_map line_of xs
  lines_all front text xs number h past =
      h ∙ ap (λ l. front ++ flat_map line_of l) (take_all number xs past)

-- ---- pages

-- the page's own line
pub page_head : (front one two_of three_of : List ℕ) (number : ℕ)
    → one ≡ front ++ codes "page " → two_of ≡ one ++ decimal number
    → three_of ≡ two_of ++ codes "\n"
    → three_of ≡ front ++ line (two (codes "page") (decimal number))
page_head front one two_of three_of number e f g =
    g ∙ ap (λ t. t ++ codes "\n")
    (f ∙ ap (λ t. t ++ decimal number) e
    ∙ append_assoc front (codes "page ") (decimal number))
    ∙ append_assoc front (codes "page " ++ decimal number) (codes "\n")

abbrev IsOne : (limit : ℕ) → List Item → Taken → Type 0
IsOne limit items taken = (taken.items ≡ items) × (taken.limit ≡ limit)

-- pages were taken up to this path, and their text was made
pub record IsTaking (resource : List ℕ) (limit : ℕ) (items : List Item)
    (after text : List ℕ) : Type 0 where
  pub pages : List Taken
  pub onward : (rest : List Taken) → AreTaken resource (Some after) rest
      → AreTaken resource (Some []) (pages ++ rest)
  pub each : All (λ (taken : Taken). (taken.items ≡ items) × (taken.limit ≡ limit)) pages
  pub text_is : text ≡ pages_text pages

pub taking_none : (resource : List ℕ) (limit : ℕ) (items : List Item) (after text : List ℕ)
    → after ≡ [] → text ≡ [] → IsTaking resource limit items after text
taking_none resource limit items after text first e = record {
  pages = [];
  onward = λ rest t. subst (λ a. AreTaken resource (Some a) rest) first t;
  each = All-nil (IsOne limit items);
  text_is = e;
}

-- one more page was taken, and its text was added
pub record TakesPage (resource : List ℕ) (limit : ℕ) (items : List Item)
    (after text new : List ℕ) (page : Listing) : Type 0 where
  pub in_order : AreInOrder items
  pub some : 1 ≤ limit
  pub so_far : IsTaking resource limit items after text
  pub is : IsPage items resource after limit page
  pub more : new ≡ text ++ page_text page.items.0

module _ {resource : List ℕ} {limit : ℕ} {items : List Item} {after text new : List ℕ}
    {page : Listing} (turn : TakesPage resource limit items after text new page) where
  abbrev own : Taken
  own = record { items = items; limit = limit; page = page }

  every : All (IsOne limit items) (turn.so_far.pages ++ own ∷ [])
  every = All-append (IsOne limit items) turn.so_far.pages (own ∷ []) turn.so_far.each
      (All-cons (IsOne limit items) own [] (refl, refl) (All-nil (IsOne limit items)))

  text_now : new ≡ pages_text (turn.so_far.pages ++ own ∷ [])
  text_now = turn.more ∙ ap (λ t. t ++ page_text page.items.0) turn.so_far.text_is
      ∙ ap (λ l. pages_text turn.so_far.pages ++ l) (sym (append-nil (page_text page.items.0)))
      ∙ sym (flat_map-append (λ (taken : Taken). page_text taken.page.items.0) turn.so_far.pages
      (own ∷ []))

  pub taking_more : (path : List ℕ) → page.next ≡ Some path
      → IsTaking resource limit items path new
  taking_more path next = record {
    pages = turn.so_far.pages ++ own ∷ [];
    onward = λ rest t. subst (AreTaken resource (Some []))
        (sym (append_assoc turn.so_far.pages (own ∷ []) rest))
        (turn.so_far.onward (own ∷ rest)
        (turn.in_order, turn.some, turn.is, subst (λ n. AreTaken resource n rest) (sym next) t));
    each = every;
    text_is = text_now;
  }

  pub taking_all : page.next ≡ None → (whole_text : List ℕ) → whole_text ≡ new ++ end_line
      → ShowsPages resource limit items whole_text
  taking_all last whole_text f = record {
    pages = turn.so_far.pages ++ own ∷ [];
    taken = turn.so_far.onward (own ∷ [])
        (turn.in_order, turn.some, turn.is, subst (λ n. AreTaken resource n []) (sym last) tt);
    each = every;
    text_is = f ∙ ap (λ t. t ++ end_line) text_now;
  }

  -- fewer items stand behind the next page's path
  pub fewer : (path : List ℕ) → page.next ≡ Some path
      → length (items_above items resource path) < length (items_above items resource after)
  fewer path next = by (page_case limit (items_above items resource after) page turn.some turn.is)
    where
      by : PageCase limit (items_above items resource after) page
          → length (items_above items resource path)
          < length (items_above items resource after)
      by (whole all none) = absurd (let x : None ≡ Some path = sym none ∙ next in cc)
      by (full front x back parts size page_is own_next) =
          let same : x.path ≡ path = same_Some x.path path (sym own_next ∙ next) in
          let rest : items_above items resource path ≡ back =
          ap (items_above items resource) (sym same)
          ∙ rest_behind items resource after front x back (rise items turn.in_order) parts in
          omega (
            arith,
            ap length rest,
            ap length parts,
            length-append front (x ∷ back),
          )
