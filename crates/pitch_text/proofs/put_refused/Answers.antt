-- `pitch_text::put_refused` meets its contract.
use Rattle.std.proofs.Common.{◌≡◌, ◌≤◌, ◌+◌, ◌-◌, ℕ, List, ◌++◌, refl, sym, ap, ◌∙◌, append_assoc, length, take, drop, arith}
use Rattle.std.proofs.lemmas.List.Edits.{sets-eq, paste_all}
use Rattle.std.proofs.lemmas.Slice.{put_mid-paste}
use borrow.Rule.Slice.PartMut.{put_mid}
use Rattle.pitch_text.specs.DecimalLaws.{digits_word}
use Rattle.pitch_text.specs.Text.{refused_text, Put}
use Rattle.lists.specs.PutLaws.{put_length}
use Rattle.pitch_text.specs.TextLaws.{put_then, put_byte}
use Rattle.pitch_text.proofs.put_refused.Goals as goal

-- eight bytes, written whole
eight : (out b text : List ℕ) (at : ℕ) → b ≡ text → length text ≡ 8 → at + 8 ≤ length out → Put out at text (at + 8) (put_mid at (at + 8 - at) out b)
eight out b text at e n h =
    let m : 8 ≡ at + 8 - at = omega arith in
    record {
      ends = ap (λ (k : ℕ). at + k) (sym n);
      holds =
          put_mid-paste at (at + 8 - at) out b text 8 e m (sym n)
          ∙ paste_all out at text 8 (sym n)
          ∙ sym (sets-eq text out at (omega (arith, n)) ∙ ap (λ (k : ℕ). take at out ++ text ++ drop (at + k) out) n ∙ append_assoc (take at out) text (drop (at + 8) out));
    }

pub put_digits-last-requires : goal.put_digits-last-requires
put_digits-last-requires c =
    let w = eight c.args.out.now _ _ c.args.at c.copy_from_slice.ensures.after refl (omega (arith, c.requires)) in
    omega (arith, digits_word _ c.ranges.n, put_length w, c.requires)

pub bounds-out-last : goal.bounds-out-last
bounds-out-last c =
    let w = eight c.args.out.now _ _ c.args.at c.copy_from_slice.ensures.after refl (omega (arith, c.requires)) in
    omega (arith, digits_word _ c.ranges.n, put_length w, c.put_digits-last.auto.out, c.put_digits-last.ensures.ends, c.requires)

pub overflow_add-result : goal.overflow_add-result
overflow_add-result c = omega (arith, digits_word _ c.ranges.n, c.put_digits-last.ensures.ends, c.requires, c.well_formed)

pub returns : goal.returns
unfolding refused_text
returns c =
    let w = eight c.args.out.now _ _ c.args.at c.copy_from_slice.ensures.after refl (omega (arith, c.requires)) in
    (put_then w (put_then c.put_digits-last.ensures (put_byte _ _ 10)), omega (arith, digits_word _ c.ranges.n, c.put_digits-last.ensures.ends))
