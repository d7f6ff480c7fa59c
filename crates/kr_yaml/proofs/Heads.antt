-- The steps over the dashes that a line begins with.
use Rattle.std.proofs.Common.{◌≡◌, ℕ, ◌+◌, ◌-◌, ◌<◌, ◌≤◌, Bool, true, false, List, [], ◌∷◌, ◌++◌}
use Rattle.std.proofs.Common.{length, Option, None, Some, refl, sym, ap, ◌∙◌, subst, arith, suc}
use Rattle.std.proofs.Common.{map}
use Rattle.std.specs.Prelude.{if◌then◌else◌, ◌==◌, ◌&&◌}
use Rattle.std.specs.Option.{option_map_or}
use Rattle.std.proofs.lemmas.List.{append-nil, append_assoc}
use Rattle.kr_yaml.specs.Bytes.{behind}
use Rattle.kr_yaml.specs.inner.Stops.{opens}
use Rattle.kr_yaml.specs.Lines.{Token, dash}
use Rattle.kr_yaml.specs.inner.LineReading.{Head, head, onto, strip_dash}
use Rattle.kr_yaml.specs.inner.Seen.{token_view, token_views, IsHead}
use Rattle.kr_yaml.specs.declared.token.LineToken.{LineToken}
use Rattle.kr_yaml.specs.declared.token.LineToken.TheVariants.{Dash}
use Rattle.kr_yaml.proofs.Quotes.{behind_cons}

-- these dashes were read, and this is what stands behind them
pub record Heads (text : List ℕ) (tokens : List Token) (rest : List ℕ) : Type 0 where
  pub dashes : List ℕ
  pub are : tokens ≡ map dash dashes
  pub within : length rest ≤ length text
  pub reads : head 0 text ≡ onto dashes (head (length text - length rest) rest)

pub heads_begin : (text : List ℕ) → Heads text [] text
heads_begin text = let e : 0 ≡ length text - length text = omega arith in record {
  dashes =
      [];
  are = refl;
  within = omega arith;
  reads = ap (λ c. head c text) e;
}

further : (n k : ℕ) → suc k ≤ n → (n - suc k) + 1 ≡ n - k
further n k h = omega arith

pub heads_space : (text rest more : List ℕ) (tokens : List Token) → Heads text tokens rest
    → Some more ≡ behind 32 rest → Heads text tokens more
heads_space text rest more tokens h space =
    let e = behind_cons 32 rest more space in
    let within : suc (length more) ≤ length text = subst (λ r. length r ≤ length text) e h.within in
    record {
      dashes = h.dashes;
      are = h.are;
      within = omega arith;
      reads = h.reads ∙ ap (λ r. onto h.dashes (head (length text - length r) r)) e
          ∙ ap (λ c. onto h.dashes (head c more)) (further (length text) (length more) within);
    }

dash_open : (v : Bool) (r more : List ℕ) → opens r ≡ v → Some more ≡ (if v then Some r else None)
    → (r ≡ more) × (opens more ≡ true)
dash_open true r more e h = let same : r ≡ more = cc in (same, ap opens (sym same) ∙ e)
dash_open false r more e h = cc

dash_at : (rest more : List ℕ) (o : Option (List ℕ)) → behind 45 rest ≡ o
    → Some more ≡ option_map_or (λ rest. if opens rest then Some rest else None) o None
    → (rest ≡ 45 ∷ more) × (opens more ≡ true)
dash_at rest more None e h = cc
dash_at rest more (Some r) e h = let both = dash_open (opens r) r more refl
    h in (behind_cons 45 rest r (sym e) ∙ ap (λ r. 45 ∷ r) both.0, both.1)

pub dash_cons : (rest more : List ℕ) → Some more ≡ strip_dash rest
    → (rest ≡ 45 ∷ more) × (opens more ≡ true)
dash_cons rest more h = dash_at rest more (behind 45 rest) refl h

pub dash_less : (rest more : List ℕ) → Some more ≡ strip_dash rest → length more < length rest
dash_less rest more h = let e = ap length (dash_cons rest more h).0 in omega arith

pub token_push : (tokens : List LineToken) (t : LineToken) → token_views (tokens ++ t ∷ [])
    ≡ token_views tokens ++ token_view t ∷ []
token_push [] t = refl
token_push (x ∷ tokens) t = ap (λ l. token_view x ∷ l) (token_push tokens t)

dash_push : (ds : List ℕ) (c : ℕ) → map dash (ds ++ c ∷ []) ≡ map dash ds ++ dash c ∷ []
dash_push [] c = refl
dash_push (d ∷ ds) c = ap (λ l. dash d ∷ l) (dash_push ds c)

onto_onto : (xs ys : List ℕ) (h : Head) → onto xs (onto ys h) ≡ onto (xs ++ ys) h
onto_onto xs ys h = ap (λ l. record { dashes = l; column = h.column; rest = h.rest })
    (sym (append_assoc xs ys h.dashes))

pub heads_dash : (text rest more : List ℕ) (tokens : List LineToken) (column : ℕ)
    → Heads text (token_views tokens) rest → Some more ≡ strip_dash rest
    → column ≡ length text - length rest → Heads text (token_views (tokens ++ Dash column ∷ []))
    more
heads_dash text rest more tokens column h minus is =
    let both = dash_cons rest more minus in
    let e = both.0 in
    let within : suc (length more) ≤ length text = subst (λ r. length r ≤ length text) e h.within in
    let at : length text - suc (length more) ≡ column = sym (is
    ∙ ap (λ r. length text - length r) e) in
    record {
      dashes = h.dashes ++ column ∷ [];
      are = token_push tokens (Dash column) ∙ ap (λ l. l ++ dash column ∷ []) h.are
          ∙ sym (dash_push h.dashes column);
      within = omega arith;
      reads = h.reads ∙ ap (λ r. onto h.dashes (head (length text - length r) r)) e
          ∙ ap (λ v. onto h.dashes (if v then onto ((length text - suc (length more)) ∷ [])
          (head ((length text - suc (length more)) + 1) more) else record {
            dashes =
                [];
            column = length text - suc (length more);
            rest = 45 ∷ more;
          })) both.1
          ∙ ap (λ c. onto h.dashes (onto ((length text - suc (length more)) ∷ []) (head c more)))
          (further (length text) (length more) within)
          ∙ ap (λ c. onto h.dashes (onto (c ∷ []) (head (length text - length more) more))) at
          ∙ onto_onto h.dashes (column ∷ []) (head (length text - length more) more);
    }

shut : (v : Bool) (r : List ℕ) → None ≡ (if v then Some r else None) → v ≡ false
shut true r h = cc
shut false r h = refl

end_at : (c b : ℕ) (bs : List ℕ) (v w : Bool) → (b == 32) ≡ v → (b == 45) ≡ w
    → None ≡ (if v then Some bs else None)
    → None ≡ option_map_or (λ rest. if opens rest then Some rest else None)
    (if w then Some bs else None) None
    → head c (b ∷ bs) ≡ record { dashes = []; column = c; rest = b ∷ bs }
end_at c b bs true w e f h k = cc
end_at c b bs false true e f h k =
    ap (λ v. if v then head (c + 1) bs else (if b == 45 && opens bs then onto (c ∷ [])
    (head (c + 1) bs) else record { dashes = []; column = c; rest = b ∷ bs })) e
    ∙ ap (λ v. if b == 45 && v then onto (c ∷ []) (head (c + 1) bs) else record {
      dashes =
          [];
      column = c;
      rest = b ∷ bs;
    }) (shut (opens bs) bs k)
    ∙ ap (λ v. if v && false then onto (c ∷ []) (head (c + 1) bs) else record {
      dashes =
          [];
      column = c;
      rest = b ∷ bs;
    }) f
end_at c b bs false false e f h k =
    ap (λ v. if v then head (c + 1) bs else (if b == 45 && opens bs then onto (c ∷ [])
    (head (c + 1) bs) else record { dashes = []; column = c; rest = b ∷ bs })) e
    ∙ ap (λ v. if v && opens bs then onto (c ∷ []) (head (c + 1) bs) else record {
      dashes =
          [];
      column = c;
      rest = b ∷ bs;
    }) f

ends : (c : ℕ) (rest : List ℕ) → None ≡ behind 32 rest → None ≡ strip_dash rest
    → head c rest ≡ record { dashes = []; column = c; rest = rest }
ends c [] h k = refl
ends c (b ∷ bs) h k = end_at c b bs (b == 32) (b == 45) refl refl h k

pub heads_end : (text rest : List ℕ) (tokens : List Token) (column : ℕ) → Heads text tokens rest
    → None ≡ behind 32 rest → None ≡ strip_dash rest → column ≡ length text - length rest
    → IsHead (head 0 text) tokens column rest
heads_end text rest tokens column h space minus is =
    let e = h.reads ∙ ap (onto h.dashes) (ends (length text - length rest) rest space minus) in
    record {
      dashes_are = h.are ∙ ap (map dash) (sym (append-nil h.dashes))
          ∙ ap (λ x. map dash x.dashes) (sym e);
      column_is = is ∙ ap (λ x. x.column) (sym e);
      rest_is = ap (λ x. x.rest) (sym e);
    }
