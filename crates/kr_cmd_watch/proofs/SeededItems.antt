-- A watch that is handed items one after another, and then lines.
use Rattle.std.proofs.Common.{◌≡◌, ℕ, zero, suc, ◌+◌, ◌<◌, ◌≤◌, List, [], ◌∷◌, ◌++◌, length, take, drop, get_or, map, append-nil, append_assoc, Some, refl, sym, ◌∙◌, ap, subst, arith}
use Rattle.std.specs.Prelude.{reverse}
use Rattle.std.proofs.lemmas.List.{length-map, reverse-append, reverse-reverse, take_all, take_more}
use Rattle.std.proofs.lemmas.List.{get_or-map}
use Rattle.kr_rollout.specs.Histories.{IsLegal}
use Rattle.kr_rollout.proofs.Appending.{front_law}
use Rattle.kr_rollout.specs.declared.line.Line.{Line}
use Rattle.kr_rollout.specs.declared.opening.Entry.{Entry}
use Rattle.kr_rollout.specs.declared.opening.Opening.{Opening}
use Rattle.kr_watch.specs.Laws.{PutsAll}
use Rattle.kr_watch.specs.Shown.{AreInOrder, ChangesItem}
use Rattle.kr_watch.specs.Watches.{Follows, GoesOn, IsNextLine, Seeds, WatchState, new_watch}
use Rattle.kr_watch.specs.declared.item.Item.{Item}
use Rattle.kr_watch.proofs.ChangeLaws.{next_line_is_next}
use Rattle.kr_watch.proofs.ShownLaws.{seeds_follow}
use Rattle.kr_cmd_watch.specs.Watchings.{keep}
use Rattle.kr_cmd_watch.specs.inner.Followings.{AreOf, AreOfOne, IsSeeded}

-- ---- items

puts_more : (items : List Item) (item : Item) (old mid new : List Item) → PutsAll old items mid
    → ChangesItem item.path (Some item) mid new → PutsAll old (items ++ item ∷ []) new
puts_more [] item old mid new p c =
    (new, subst (λ m. ChangesItem item.path (Some item) m new) p c, refl)
puts_more (first ∷ items) item old mid new (next, own, rest) c =
    (next, own, puts_more items item next mid new rest c)

-- the first of the items were handed in, and the others stand from the last to the first
pub record IsSeeding (items : List Item) (keeps revision : ℕ) (left : List Item)
    (watch : WatchState) : Type 0 where
  pub done : List Item
  pub parts : items ≡ done ++ reverse left
  pub puts : PutsAll [] done watch.items
  pub rest : watch ≡ record (new_watch keeps revision) { items = watch.items }

pub seeding_none : (items left : List Item) (keeps revision : ℕ) (watch : WatchState)
    → left ≡ reverse items → watch ≡ new_watch keeps revision
    → IsSeeding items keeps revision left watch
seeding_none items left keeps revision watch turned new = record {
  done = [];
  parts = sym (ap reverse turned ∙ reverse-reverse items);
  puts = ap (λ (w : WatchState). w.items) new;
  rest = new ∙ (λ i. record (new_watch keeps revision) {
    items = sym (ap (λ (w : WatchState). w.items) new) i;
  });
}

pub seeding_more : (items left next : List Item) (item : Item) (keeps revision : ℕ)
    (old new : WatchState) → IsSeeding items keeps revision left old
    → left ≡ next ++ item ∷ [] → Seeds item old new
    → IsSeeding items keeps revision next new
seeding_more items left next item keeps revision old new s last seeds = record {
  done = s.done ++ item ∷ [];
  parts = s.parts ∙ ap (λ l. s.done ++ reverse l) last
      ∙ ap (λ l. s.done ++ l) (reverse-append next (item ∷ []))
      ∙ sym (append_assoc s.done (item ∷ []) (reverse next));
  puts = puts_more s.done item [] old.items new.items s.puts seeds.items;
  rest = seeds.rest ∙ ap (λ (w : WatchState). record w { items = new.items }) s.rest;
}

pub seeding_all : (items left : List Item) (revision : ℕ) (watch : WatchState)
    → IsSeeding items keep revision left watch → left ≡ [] → AreInOrder watch.items
    → IsSeeded items revision watch
seeding_all items left revision watch s none in_order = record {
  puts = subst (λ l. PutsAll [] l watch.items)
      (sym (s.parts ∙ ap (λ l. s.done ++ reverse l) none ∙ append-nil s.done)) s.puts;
  in_order = in_order;
  rest = s.rest;
}

-- ---- lines

split_at : (n : ℕ) (history : List Entry) → take n history ++ drop n history ≡ history
split_at zero history = refl
split_at (suc n) [] = refl
split_at (suc n) (e ∷ history) = ap (λ l. e ∷ l) (split_at n history)

pub legal_front : (o : Opening) (history : List Entry) (n : ℕ) → IsLegal o history
    → IsLegal o (take n history)
legal_front o history n legal = front_law o (take n history) (drop n history)
    (subst (IsLegal o) (sym (split_at n history)) legal)

module _ (items : List Item) (revision : ℕ) (lines : List Line) where
  -- whatever they are of, so many of its entries were handed in
  pub record IsFollowing (number : ℕ) (watch : WatchState) : Type 0 where
    pub keeps : watch.keep ≡ keep
    pub follows : (o : Opening) (history : List Entry) → AreOf items revision lines o history
        → Follows items o (take number history) watch

  pub following_none : (watch : WatchState) → IsSeeded items revision watch
      → IsFollowing 0 watch
  following_none watch s = record {
    keeps = ap (λ (w : WatchState). w.keep) s.rest;
    follows = λ o history are. subst (Follows items o []) (sym (s.rest
        ∙ ap (λ n. record (new_watch keep n) { items = watch.items }) are.revision_is))
        (seeds_follow o items watch.items keep are.live s.puts s.in_order);
  }

  module _ (number : ℕ) (line : Line) (below : number < length lines)
      (is : line ≡ get_or lines number line) where
    -- the entry of the line
    pub record HasEntry (history : List Entry) : Type 0 where
      pub e : Entry
      pub own : e.line ≡ line
      pub next : take (number + 1) history ≡ take number history ++ e ∷ []
      pub within : number < length history

    entry_of : (history : List Entry) → lines ≡ map (λ (e : Entry). e.line) history
        → (d : Entry) → HasEntry history
    entry_of history are d =
        let long : length lines ≡ length history = ap length are
        ∙ length-map history (λ (e : Entry). e.line) in
        let there : number < length history = omega (arith, below, long) in
        record {
          e = get_or history number d;
          own = sym (get_or-map (λ (e : Entry). e.line) history number d line there)
              ∙ ap (λ l. get_or l number line) (sym are) ∙ sym is;
          next = take_more history number d there;
          within = there;
        }

    some_entry : (history : List Entry) → lines ≡ map (λ (e : Entry). e.line) history
        → HasEntry history
    some_entry [] are = absurd (let long = ap length are in omega (arith, below, long))
    some_entry (e ∷ history) are = entry_of (e ∷ history) are e

    legal_next : (o : Opening) (history : List Entry) → IsLegal o history
        → (h : HasEntry history) → IsLegal o (take number history ++ h.e ∷ [])
    legal_next o history legal h = subst (IsLegal o) h.next
        (legal_front o history (number + 1) legal)

    -- it is the next one of the watch
    pub next_line : AreOfOne items revision lines → (watch : WatchState)
        → IsFollowing number watch → IsNextLine watch line
    next_line (o, history, are) watch f =
        let h = some_entry history are.lines_are in
        subst (IsNextLine watch) h.own (next_line_is_next items o (take number history) h.e watch
        (legal_next o history are.legal h) (f.follows o history are))

    pub following_more : (old new : WatchState) → IsFollowing number old → GoesOn line old new
        → IsFollowing (number + 1) new
    following_more old new f g = record {
      keeps = g.keep ∙ f.keeps;
      follows = λ o history are.
          let h = some_entry history are.lines_are in
          subst (λ l. Follows items o l new) (sym h.next)
          (g.follows items o (take number history) h.e (legal_next o history are.legal h) h.own
          (f.follows o history are));
    }

  pub following_all : (number : ℕ) (watch : WatchState) → length lines ≤ number
      → IsFollowing number watch → (o : Opening) (history : List Entry)
      → AreOf items revision lines o history → Follows items o history watch
  following_all number watch past f o history are =
      let long : length lines ≡ length history = ap length are.lines_are
      ∙ length-map history (λ (e : Entry). e.line) in
      subst (λ l. Follows items o l watch) (take_all number history (omega (arith, past, long)))
      (f.follows o history are)
