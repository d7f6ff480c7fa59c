-- Closing the innermost of open nodes.
use Rattle.std.proofs.Common.{◌≡◌, ℕ, ◌<◌, ◌≤◌, List, [], ◌∷◌, ◌++◌, length, take, drop, Some, refl}
use Rattle.std.proofs.Common.{ap, ◌∙◌, arith}
use Rattle.std.proofs.lemmas.List.{length-append, take-append-le, drop-append-le}
use Rattle.kr_yaml.specs.Data.{Data}
use Rattle.kr_yaml.specs.inner.Open.{Frame, close, closed_value}
use Rattle.kr_yaml.specs.inner.Frames.{frame_view, frame_views}
use Rattle.kr_yaml.specs.declared.open.OpenNode.{OpenNode}

closed_last : (fs : List Frame) (f : Frame) (d : Data) → closed_value (fs ++ f ∷ []) (Some d)
    ≡ closed_value fs (Some (close f d))
closed_last [] f d = refl
closed_last (g ∷ fs) f d = ap (close g) (closed_last fs f d)

frames_last : (nodes : List OpenNode) (node : OpenNode) → frame_views (nodes ++ node ∷ [])
    ≡ frame_views nodes ++ frame_view node ∷ []
frames_last [] node = refl
frames_last (n ∷ nodes) node = ap (λ l. frame_view n ∷ l) (frames_last nodes node)

within : (at : ℕ) (all rest : List OpenNode) (node : OpenNode) → all ≡ rest ++ node ∷ []
    → at < length all → at ≤ length rest
within at all rest node e h = let l = ap length e ∙ length-append rest (node ∷ []) in omega arith

pub closed_pop : (at : ℕ) (all rest : List OpenNode) (node : OpenNode) (d : Data)
    → all ≡ rest ++ node ∷ [] → at < length all → closed_value (frame_views (drop at all)) (Some d)
    ≡ closed_value (frame_views (drop at rest)) (Some (close (frame_view node) d))
closed_pop at all rest node d e h =
    ap (λ l. closed_value (frame_views (drop at l)) (Some d)) e
    ∙ ap (λ l. closed_value (frame_views l) (Some d)) (drop-append-le at rest (node ∷ [])
    (within at all rest node e h))
    ∙ ap (λ l. closed_value l (Some d)) (frames_last (drop at rest) node)
    ∙ closed_last (frame_views (drop at rest)) (frame_view node) d

pub take_pop : (at : ℕ) (all rest : List OpenNode) (node : OpenNode) → all ≡ rest ++ node ∷ []
    → at < length all → take at all ≡ take at rest
take_pop at all rest node e h = ap (take at) e
    ∙ take-append-le at rest (node ∷ []) (within at all rest node e h)
