use Rattle.std.proofs.Common.{◌≡◌, ◌∷◌, IsTrue, true, false, subst, sym, ◌↔◌, get_or, drop, suc}
use Rattle.kr_base.specs.Rules.{IsLabelByte}
use Rattle.kr_base.proofs.Labels.{Parted, after_dot, after_label, refused_byte, moved, stopped, at_end, labels_parted}
use Rattle.kr_base.proofs.rules.are_labels.Goals as goal
use Rattle.kr_base.proofs.rules.are_labels.Goals.{then-begun+then-byte-eq46, else-begun+then-is_label_byte, else-begun-via-then-begun+else-byte-eq46, else-begun-via-else-begun}

pub loop-byte-preserved : goal.loop-byte-preserved
loop-byte-preserved c = elim c.if-begun.branch [
  | then-begun+then-byte-eq46 w ↦
      let bytes = c.args.bytes.now in let i = c.loop-byte.byte-index in
      moved c.loop-byte.begun c.if-begun.begun bytes i (Parted false bytes) c.loop-byte-test.true
      (subst (λ b. Parted b (get_or bytes i 0 ∷ drop (suc i) bytes) ↔ Parted c.if-begun.begun (drop (suc i) bytes)) (sym w.if-begun.true)
      (subst (λ b. Parted true (get_or bytes i 0 ∷ drop (suc i) bytes) ↔ Parted b (drop (suc i) bytes)) (sym w.begun-is) (after_dot _ _ w.if-byte-eq46.true)))
      c.loop-byte.invariant
  | else-begun+then-is_label_byte w ↦
      let bytes = c.args.bytes.now in let i = c.loop-byte.byte-index in
      moved c.loop-byte.begun c.if-begun.begun bytes i (Parted false bytes) c.loop-byte-test.true
      (subst (λ b. Parted c.loop-byte.begun (get_or bytes i 0 ∷ drop (suc i) bytes) ↔ Parted b (drop (suc i) bytes)) (sym w.begun-is)
      (after_label c.loop-byte.begun _ _ (w.is_label_byte.ensures.0 w.if-is_label_byte.true)))
      c.loop-byte.invariant
]

pub returns-else-is_label_byte : goal.returns-else-is_label_byte
returns-else-is_label_byte c =
    let dot : IsTrue c.loop-byte.begun → get_or c.args.bytes.now c.loop-byte.byte-index 0 ≡ 0x2E → ⊥ =
    λ begun is. elim c.else-begun.branch [ else-begun-via-then-begun+else-byte-eq46 w ↦ w.if-byte-eq46.false is | else-begun-via-else-begun w ↦ (let a = w.if-begun.false in cc) ] in
    let label : IsLabelByte (get_or c.args.bytes.now c.loop-byte.byte-index 0) → ⊥ = λ l. let a = c.is_label_byte.ensures.1 l in let b = c.if-is_label_byte.false in cc in
    (λ t. absurd (let a : false ≡ true = t in cc), λ r. absurd (stopped c.loop-byte.begun c.args.bytes.now c.loop-byte.byte-index c.loop-byte-test.true (refused_byte c.loop-byte.begun _ _ dot label) (c.loop-byte.invariant.1 (labels_parted _ r))))

pub returns : goal.returns
returns c = at_end c.loop-byte.begun c.args.bytes.now c.loop-byte.byte-index c.loop-byte-test.false c.loop-byte.invariant
