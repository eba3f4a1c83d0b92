-- Settings that are analysed, settings that a sheet can hold, and the sizes that settings give (docs/SCOPE.md, Settings and Refusals). Definitions only.
use Rattle.std.specs.Prelude.{Bool, ◌||◌, cond, ℕ, ◌+◌, ◌*◌, eqb, leb}
use Rattle.pitch_settings.specs.declared.Settings.{Settings}

-- a rate of 8, 12 or 16 kHz
unfoldable pub rate_known : ℕ → Bool
rate_known rate = eqb rate 8 || (eqb rate 12 || eqb rate 16)

-- two or four subframes
unfoldable pub subframes_known : ℕ → Bool
subframes_known nb = eqb nb 2 || eqb nb 4

-- the complexities with which frames are analysed: 0, 1 and 2
abbrev pub complexity_analysed : ℕ → Bool
complexity_analysed complexity = leb complexity 2

-- the complexities that a sheet can hold: 0, 1 and 2
abbrev pub complexity_held : ℕ → Bool
complexity_held complexity = leb complexity 2

-- the number of the refusal: 1 rate, 2 subframes, 3 complexity, in this order; 0 where there is none. Whether the complexity is known is decided before
abbrev pub settings_refusal : ℕ → ℕ → Bool → ℕ
settings_refusal rate nb known = cond (rate_known rate) (cond (subframes_known nb) (cond known 0 3) 2) 1

-- settings that are analysed (0), or why they are not
unfoldable pub settings_no : Settings → ℕ
settings_no s = settings_refusal s.rate s.nb (complexity_analysed s.complexity)

-- settings that a sheet can hold (0), or why it can't
unfoldable pub held_no : Settings → ℕ
held_no s = settings_refusal s.rate s.nb (complexity_held s.complexity)

-- N = (20 + 5 nb) fs samples make a frame
unfoldable pub frame_length : Settings → ℕ
frame_length s = (20 + 5 * s.nb) * s.rate

-- the samples of the longest frame: 16 kHz, four subframes
abbrev pub longest_frame : ℕ
longest_frame = 640

-- a track advances by hop = 5 nb fs
unfoldable pub hop_length : Settings → ℕ
hop_length s = 5 * s.nb * s.rate
