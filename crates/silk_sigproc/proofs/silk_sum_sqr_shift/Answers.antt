-- `silk_sigproc::silk_sum_sqr_shift` meets its contract.
use Rattle.std.proofs.Common.{◌≡◌, sym, ap, ap₂, ◌∙◌, subst, List, ℕ, ◌+◌, ◌-◌, ◌*◌, ◌^◌, ◌≤◌, ◌<◌, arith, ℤ, length, take, length-take-le}
use Rattle.std.specs.Int.Count.{count_leading_zeros}
use Rattle.silk_sigproc.specs.SumSqr.{pairs, pair_sum, excess, first_shift, first_sum, sqr_shift, sqr_energy}
use Rattle.silk_sigproc.specs.SumSqrLaws.{zeros_le, first_small, sqr_shift_lt, energy_small}
use Rattle.silk_sigproc.proofs.silk_sum_sqr_shift.Goals as goal

-- n samples of x, the sum r of their pairs at the first shift, the shift s and the energy e
module _ (x : List ℤ) (n : ℕ) (positive : 0 < n) (few : n < 2 ^ 28) (within : n ≤ length x) where
  part_length : length (take n x) ≡ n
  part_length = length-take-le n x within

  module _ (r : ℕ) (is : (r ≡ pair_sum (take n x) (31 - count_leading_zeros 32 n)) × (r * 2 ^ (31 - count_leading_zeros 32 n) ≤ pairs (length (take n x)) * 2 ^ 31)) where
    -- the first sum, and its range
    nrg_is : n + r ≡ first_sum (take n x)
    unfolding first_sum first_shift
    nrg_is = ap₂ (λ (m k : ℕ). m + k) (sym part_length) (is.0 ∙ ap (λ (m : ℕ). pair_sum (take n x) (first_shift m)) (sym part_length))

    nrg_small : n + r < 2 ^ 32
    unfolding first_shift
    nrg_small = first_small n r positive few (subst (λ (m : ℕ). r * 2 ^ first_shift n ≤ pairs m * 2 ^ 31) part_length is.1)

    module _ (s : ℕ) (shift_given : s ≡ excess (n + r) (31 - count_leading_zeros 32 n)) where
      -- the shift, and its range
      shift_is : s ≡ sqr_shift (take n x)
      unfolding sqr_shift first_shift
      shift_is = shift_given ∙ ap₂ (λ (a m : ℕ). excess a (first_shift m)) nrg_is (sym part_length)

      shift_lt : s < 31
      shift_lt = omega (arith, shift_is, sqr_shift_lt (take n x) (omega (arith, part_length)) (omega (arith, part_length)))

      energy_is : (e : ℕ) → e ≡ pair_sum (take n x) s → e ≡ sqr_energy (take n x)
      unfolding sqr_energy
      energy_is e q = q ∙ ap (pair_sum (take n x)) shift_is

      energy_lt : (e : ℕ) → e ≡ pair_sum (take n x) s → e < 2 ^ 29
      energy_lt e q = omega (arith, energy_is e q, energy_small (take n x) (omega (arith, nrg_is, nrg_small)))

pub overflow_sub-first_shift : goal.overflow_sub-first_shift
overflow_sub-first_shift c = zeros_le c.args.len c.requires.0 (omega arith)

pub slice_bounds-part-end : goal.slice_bounds-part-end
slice_bounds-part-end c =
    let q = c.requires in
    sym (part_length c.args.x.now c.args.len q.0 q.1.0 q.1.1)

pub sum_pairs-requires : goal.sum_pairs-requires
sum_pairs-requires c =
    let q = c.requires in
    omega (arith, part_length c.args.x.now c.args.len q.0 q.1.0 q.1.1)

pub overflow_add-nrg : goal.overflow_add-nrg
overflow_add-nrg c =
    let q = c.requires in
    omega (arith, nrg_small c.args.x.now c.args.len q.0 q.1.0 q.1.1 _ c.sum_pairs.ensures)

pub overflow_cast-nrg : goal.overflow_cast-nrg
overflow_cast-nrg c =
    let q = c.requires in
    omega (arith, nrg_small c.args.x.now c.args.len q.0 q.1.0 q.1.1 _ c.sum_pairs.ensures)

pub sum_pairs-energy-requires : goal.sum_pairs-energy-requires
sum_pairs-energy-requires c =
    let q = c.requires in
    omega (arith, part_length c.args.x.now c.args.len q.0 q.1.0 q.1.1, shift_lt c.args.x.now c.args.len q.0 q.1.0 q.1.1 _ c.sum_pairs.ensures _ c.bits_over-shift.ensures)

pub overflow_cast-energy : goal.overflow_cast-energy
overflow_cast-energy c =
    let q = c.requires in
    omega (arith, energy_lt c.args.x.now c.args.len q.0 q.1.0 q.1.1 _ c.sum_pairs.ensures _ c.bits_over-shift.ensures _ c.sum_pairs-energy.ensures.0)

pub returns : goal.returns
returns c =
    let q = c.requires in
    let r = c.sum_pairs.ensures in
    let s = c.bits_over-shift.ensures in
    let e = c.sum_pairs-energy.ensures.0 in
    record {
      energy_value = (energy_is c.args.x.now c.args.len q.0 q.1.0 q.1.1 _ r _ s _ e, shift_is c.args.x.now c.args.len q.0 q.1.0 q.1.1 _ r _ s);
      energy_bound = (energy_lt c.args.x.now c.args.len q.0 q.1.0 q.1.1 _ r _ s _ e, shift_lt c.args.x.now c.args.len q.0 q.1.0 q.1.1 _ r _ s);
    }
