-- `silk_resampler::silk_resampler_down2_3` meets its contract.
use Rattle.std.proofs.Common.{◌≡◌, ap, ◌∙◌, List, ◌++◌, ℕ, ◌+◌, ◌-◌, ◌≤◌, ◌<◌, arith, rules, ℤ, pos, negsuc, length, take, drop, replicate}
use Rattle.std.proofs.Math.ListN.{length-replicate}
use borrow.Rule.Slice.PartMut.{put_mid}
use Rattle.lists.specs.Fill.{filled}
use Rattle.lists.specs.FillLaws.{filled_copied}
use Rattle.lists.specs.Signal.{sample}
use Rattle.silk_resampler.specs.Down23.{FilterNumbers, filter_numbers, States, ar2_states, filtered, states_of, with_states, buffer, down2_3_states}
use Rattle.silk_resampler.specs.Down23Laws.{batch_at, batch_out, batch_left, states_part}
use Rattle.silk_resampler.proofs.silk_resampler_down2_3.Goals as goal

-- the buffer after the recursion: what it holds, of the copied history and of the part that the recursion left
buffer_at : (F : FilterNumbers) (s : List ℤ) (x : ℕ → ℤ) (m : ℕ) {copied part : List ℤ} → m ≤ 480 → copied ≡ filled (sample s) 4 (replicate 484 (pos 0))
    → part ≡ filled (filtered F (negsuc 2796) (negsuc 6506) (states_of (take 2 (drop 4 s))) x) m (take (4 + m - 4) (drop 4 copied))
    → (k : ℕ) → k < 4 + m → sample (put_mid 4 (4 + m - 4) copied part) k ≡ buffer F s x k
unfolding buffer
buffer_at F s x m {copied} h ec ep =
    batch_at (sample s) (filtered F (negsuc 2796) (negsuc 6506) (states_of (drop 4 s)) x) m (replicate 484 (pos 0)) (simp length-replicate (omega arith)) ec
    (ep ∙ ap (λ (z : States). filled (filtered F (negsuc 2796) (negsuc 6506) z x) m (take (4 + m - 4) (drop 4 copied))) (states_part (drop 4 s)))

pub returns : goal.returns
unfolding down2_3_states sample
returns c =
    let F = filter_numbers c.args.filter in
    let s = c.args.s.now in
    let x = sample c.args.input.now in
    let m = c.args.in_len in
    let l = drop 4 s in
    let a = ar2_states F (negsuc 2796) (negsuc 6506) (states_of l) x m in
    let h : m ≤ 480 = omega (arith, c.requires) in
    let g : 4 ≤ length s = omega (arith, c.requires) in
    let history : c.copy_from_slice.new.self ++ drop 4 (replicate 484 (pos 0)) ≡ filled (sample s) 4 (replicate 484 (pos 0)) =
    ap (λ (t : List ℤ). t ++ drop 4 (replicate 484 (pos 0))) c.copy_from_slice.ensures.after ∙ filled_copied s (replicate 484 (pos 0)) 4 (pos 0) g in
    let buf = put_mid 4 (4 + m - 4) (c.copy_from_slice.new.self ++ drop 4 (replicate 484 (pos 0))) c.silk_resampler_private_ar2.new.out_q8 in
    let b = buffer_at F s x m h history c.silk_resampler_private_ar2.ensures.out_q8_after in
    let f : c.silk_resampler_private_ar2.new.s ≡ with_states a (take 2 l) =
    c.silk_resampler_private_ar2.ensures.s_after ∙ ap (λ (z : States). with_states (ar2_states F (negsuc 2796) (negsuc 6506) z x m) (take 2 l)) (states_part l) in
    let last : c.copy_from_slice-2.new.self ≡ take (m + 4 - m) (drop m buf) = c.copy_from_slice-2.ensures.after in
    let four : m + 4 - m ≡ 4 = omega arith in
    let states = put_mid 4 2 s c.silk_resampler_private_ar2.new.s in
    let room : 4 ≤ length (drop m buf) = search rules in
    record {
      out_after = c.decimate.ensures ∙ batch_out F s x m buf b c.args.out.now;
      s_after =
          ap (λ (t : List ℤ). t ++ drop 4 states) (last ∙ ap (λ (n : ℕ). take n (drop m buf)) four)
          ∙ filled_copied (drop m buf) states 4 (pos 0) room
          ∙ batch_left F s x m buf b a f g;
    }
