-- What replaying cases counts, in words of 64 bits that go round at 2 ^ 64, and whether two settings are the same. Definitions only; the laws are in `CountsLaws`.
use Rattle.std.specs.Prelude.{ℕ, ◌+◌, ◌%◌, ◌^◌, Bool, true, cond, ◌&&◌, List, ◌==◌, slice_index_or, slice_set, sum_by}
use Rattle.std.specs.Ordering.{int_eq}
use Rattle.pitch_settings.specs.declared.Settings.{Settings}
use Rattle.cases_io.specs.declared.Tally.{Tally}

-- all five numbers are equal
unfoldable pub same_settings : Settings → Settings → Bool
same_settings a b = a.rate == b.rate && (a.nb == b.nb && (a.complexity == b.complexity && (int_eq a.thres1 b.thres1 && int_eq a.thres2 b.thres2)))

-- a count of n after a case that counts (true), or does not
unfoldable pub counted : Bool → ℕ → ℕ
counted counts n = cond counts ((n + 1) % 2 ^ 64) n

abbrev pub tally : ℕ → ℕ → Tally
tally agreed total = record { agreed = agreed; total = total }

-- a tally after a case that agrees, or does not: its total counts each case
unfoldable pub tally_after : Tally → Bool → Tally
tally_after t agrees = tally (counted agrees t.agreed) (counted true t.total)

-- two tallies together
unfoldable pub tally_plus : Tally → Tally → Tally
tally_plus s t = tally ((s.agreed + t.agreed) % 2 ^ 64) ((s.total + t.total) % 2 ^ 64)

-- a list of tallies, one for each kind, after a case of this kind
unfoldable pub counted_at : List Tally → ℕ → Bool → List Tally
counted_at ts kind agrees = slice_set ts kind (tally_after (slice_index_or ts kind (tally 0 0)) agrees)

-- the sums over all kinds, each modulo 2 ^ 64
unfoldable pub totals_of : List Tally → Tally
totals_of ts = tally (sum_by (λ t. t.agreed) ts % 2 ^ 64) (sum_by (λ t. t.total) ts % 2 ^ 64)
