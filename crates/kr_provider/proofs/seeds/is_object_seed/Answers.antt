-- `is_object_seed`: the parts are compared one by one.
use Rattle.std.proofs.Common.{Bool, ap, ◌∙◌}
use Rattle.std.specs.Prelude.{◌&&◌}
use Rattle.std.specs.Str.{bytes_eq}
use Rattle.kr_base.specs.Pairs.{pairs_eq}
use Rattle.kr_provider.proofs.seeds.is_object_seed.Goals as goal

pub returns-else-eq : goal.returns-else-eq
returns-else-eq c =
    let r = c.args.row.now in
    let o = c.args.object.now in
    let named = c.if-eq.ensures ∙ ap (λ s. bytes_eq s c.args.name.now) c.as_str.ensures in
    c.if-eq.false ∙ ap (λ (v : Bool). v && (bytes_eq r.key_id o.key_id
    && (pairs_eq r.annotations o.annotations && bytes_eq r.source o.source))) named

pub returns-else-eq-2 : goal.returns-else-eq-2
returns-else-eq-2 c =
    let r = c.args.row.now in
    let o = c.args.object.now in
    let named = c.if-eq.ensures ∙ ap (λ s. bytes_eq s c.args.name.now) c.as_str.ensures in
    let behind : Bool = pairs_eq r.annotations o.annotations && bytes_eq r.source o.source in
    c.if-eq-2.false ∙ ap (λ (v : Bool). v && behind) c.if-eq-2.ensures
    ∙ ap (λ (v : Bool). v && (bytes_eq r.key_id o.key_id && behind)) named

pub returns-else-eq-3 : goal.returns-else-eq-3
returns-else-eq-3 c =
    let r = c.args.row.now in
    let o = c.args.object.now in
    let named = c.if-eq.ensures ∙ ap (λ s. bytes_eq s c.args.name.now) c.as_str.ensures in
    let last : Bool = bytes_eq r.source o.source in
    let behind : Bool = pairs_eq r.annotations o.annotations && last in
    c.if-eq-3.false ∙ ap (λ (v : Bool). v && last) c.if-eq-3.ensures
    ∙ ap (λ (v : Bool). v && behind) c.if-eq-2.ensures
    ∙ ap (λ (v : Bool). v && (bytes_eq r.key_id o.key_id && behind)) named

pub returns-then-eq-3 : goal.returns-then-eq-3
returns-then-eq-3 c =
    let r = c.args.row.now in
    let o = c.args.object.now in
    let last : Bool = bytes_eq r.source o.source in
    let behind : Bool = pairs_eq r.annotations o.annotations && last in
    let named = c.if-eq.ensures ∙ ap (λ s. bytes_eq s c.args.name.now) c.as_str.ensures in
    c.eq-then-eq-3.ensures ∙ ap (λ (v : Bool). v && last) c.if-eq-3.ensures
    ∙ ap (λ (v : Bool). v && behind) c.if-eq-2.ensures
    ∙ ap (λ (v : Bool). v && (bytes_eq r.key_id o.key_id && behind)) named
