-- `stage3_arrays::by_contour` meets its contract: the places by the codebook's row.
use Rattle.std.proofs.Common.{◌≡◌, sym, ap, ◌∙◌, subst, List, ℕ, ◌+◌, ◌≤◌, ◌<◌, ℤ, pos, nat_abs, ◌-ℤ◌, length, get_or, w32, to_z, of_z, take, get_or-take, length-take, arith}
use Rattle.zint.specs.ReadLaws.{r_is}
use Rattle.lists.specs.Fill.{tabulate}
use Rattle.lists.specs.FillLaws.{length_tabulate, get_d_tabulate}
use Rattle.silk_tables.specs.Tables.{TableSettings, in_use, offset, range_low, range_place}
use Rattle.silk_tables.proofs.TableLaws.{in_use_bounds, low_fits, place_fits, place_nonneg, place_total, total_le}
use Rattle.stage3_arrays.specs.Arrays.{subframe_array, Placed}
use Rattle.stage3_arrays.specs.ArrayLaws.{array_ext}
use Rattle.stage3_arrays.proofs.by_contour.Goals as goal

-- the offsets in use, and the range's start, as the code has them
module _ {nb cx : ℕ} (k : ℕ) (s : TableSettings nb cx) {row : List ℤ} (e : row ≡ tabulate (offset nb k) 34) {n : ℕ} (m : n ≡ in_use nb cx) where
  used : length (take n row) ≡ in_use nb cx
  used = omega (arith, length-take n row, ap length e, length_tabulate (offset nb k) 34, in_use_bounds s)

  is_offset : (j : ℕ) → j < in_use nb cx → get_or (take n row) j (pos 0) ≡ offset nb k j
  is_offset j i =
      get_or-take n row j (pos 0) (omega arith)
      ∙ ap (λ (r : List ℤ). get_or r j (pos 0)) e
      ∙ get_d_tabulate (offset nb k) 34 j (pos 0) (omega (arith, in_use_bounds s))

module _ {nb cx k : ℕ} (s : TableSettings nb cx) (h : k < nb) {row : List ℤ} (e : row ≡ tabulate (offset nb k) 34) {n : ℕ} (m : n ≡ in_use nb cx) {l : ℤ} (f : l ≡ range_low nb cx k) where
  low : to_z w32 (of_z w32 l) ≡ range_low nb cx k
  low = (r_is f (low_fits s h)).val

  -- each offset in use has its five places
  row_placed : (j : ℕ) → j < length (take n row) → Placed (get_or (take n row) j (pos 0)) (to_z w32 (of_z w32 l))
  unfolding range_place
  row_placed j g =
      let i : j < in_use nb cx = omega (arith, used k s e m) in
      let u : nat_abs (offset nb k j -ℤ range_low nb cx k) + 5 ≤ 22 = omega (arith, place_total s h j i, total_le s h) in
      let p : Placed (offset nb k j) (range_low nb cx k) = record {
        within = place_fits s h j i;
        from_low = place_nonneg s h j i;
        five_more = u;
      } in
      subst (λ (x : ℤ). Placed x (to_z w32 (of_z w32 l))) (sym (is_offset k s e m j i)) (subst (Placed (offset nb k j)) (sym low) p)

  -- and they are those of the contour
  row_rows : (mem : List ℤ) → subframe_array (length (take n row)) (λ (j q : ℕ). get_or mem (nat_abs (get_or (take n row) j (pos 0) -ℤ to_z w32 (of_z w32 l)) + q) (pos 0))
      ≡ subframe_array (in_use nb cx) (λ (j q : ℕ). get_or mem (range_place nb cx k j + q) (pos 0))
  unfolding range_place
  row_rows mem =
      ap (λ (c : ℕ). subframe_array c (λ (j q : ℕ). get_or mem (nat_abs (get_or (take n row) j (pos 0) -ℤ to_z w32 (of_z w32 l)) + q) (pos 0))) (used k s e m)
      ∙ array_ext (in_use nb cx) _ _ (λ j q i g. λ t. get_or mem (nat_abs (is_offset k s e m j i t -ℤ low t) + q) (pos 0))

pub slice_bounds-offsets-end : goal.slice_bounds-offsets-end
slice_bounds-offsets-end c = omega (arith, c.nb_cbk_search-nb_cbk_search.ensures, in_use_bounds c.args.codebook.settings)

pub slice_bounds-spread-end : goal.slice_bounds-spread-end
slice_bounds-spread-end c =
    let e = c.nb_cbk_search-nb_cbk_search.ensures in
    omega (arith, e, used c.args.k c.args.codebook.settings c.row-offsets.ensures e)

pub spread-requires : goal.spread-requires
spread-requires c =
    let s = c.args.codebook.settings in
    let e = c.row-offsets.ensures in
    let n = c.nb_cbk_search-nb_cbk_search.ensures in
    (omega (arith, used c.args.k s e n, in_use_bounds s), row_placed s c.requires e n c.lag_range.ensures.low)

pub returns : goal.returns
returns c = c.spread.ensures ∙ row_rows c.args.codebook.settings c.requires c.row-offsets.ensures c.nb_cbk_search-nb_cbk_search.ensures c.lag_range.ensures.low c.args.scratch_mem.now
