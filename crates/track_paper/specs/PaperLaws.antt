-- Laws of a delivery on paper: what each test says of its number, what the answer and the samples are by it, and how many samples are held.
use Rattle.std.proofs.Common.{sym, ap, ◌∙◌, ⊎_elim, arith, length-drop, eq-eqb, ne_eqb, lt-ltb, le-ltb}
use Rattle.std.specs.Prelude.{Ok, Err, ℕ, ◌+◌, ◌-◌, ◌*◌, ◌≤◌, ◌<◌, ◌≡◌, List, ◌++◌, ℤ, length}
use Rattle.refusals.specs.Refusals.{refusal_number}
use Rattle.refusals.specs.RefusalsLaws.{refused_positive}
use Rattle.pitch_settings.specs.declared.Settings.{Settings}
use Rattle.pitch_settings.specs.Settings.{settings_no, frame_length, hop_length}
use Rattle.pitch_settings.specs.SettingsLaws.{Accepted as Sized, accepted_settings}
use Rattle.track_paper.specs.declared.Limit.{Limit}
use Rattle.track_paper.specs.Paper.{F, answer_of, track_limit, paper_no, joined_by, paper_answer, frames_done, samples_held}
use Rattle.track_paper.specs.FramesLaws.{lt_or_le, fits, rest, starts, parts}

-- a track's own limit has the number of a refusal
pub limit_refuses : track_limit.refusal ≡ 0 → ⊥
limit_refuses e = omega arith

module _ (l : Limit ℕ) (s : Settings) (rows : ℕ) (j d : List ℤ) where
  -- what each test says of the number
  pub paper_over : l.frames < F s (length j + length d) → paper_no l s rows j d ≡ l.refusal
  unfolding paper_no
  paper_over p = rw (lt-ltb _ _ p)

  module _ (within : F s (length j + length d) ≤ l.frames) where
    pub paper_none : F s (length j + length d) ≤ F s (length j) → paper_no l s rows j d ≡ 0
    unfolding paper_no
    paper_none p = rw (le-ltb _ _ within, le-ltb _ _ p)

    pub paper_seven : F s (length j) < F s (length j + length d) → rows < F s (length j + length d) → paper_no l s rows j d ≡ 7
    unfolding paper_no
    paper_seven p q = rw (le-ltb _ _ within, lt-ltb _ _ p, lt-ltb _ _ q)

    pub paper_room : F s (length j) < F s (length j + length d) → F s (length j + length d) ≤ rows → paper_no l s rows j d ≡ 0
    unfolding paper_no
    paper_room p q = rw (le-ltb _ _ within, lt-ltb _ _ p, le-ltb _ _ q)

  -- the samples and the answer
  pub joins : paper_no l s rows j d ≡ 0 → joined_by l s rows j d ≡ j ++ d
  unfolding joined_by
  joins e = rw (eq-eqb _ _ e)

  pub stays : (paper_no l s rows j d ≡ 0 → ⊥) → joined_by l s rows j d ≡ j
  unfolding joined_by
  stays e = rw (ne_eqb _ _ e)

  pub says_yes : paper_no l s rows j d ≡ 0 → paper_answer l s rows j d ≡ Ok (F s (length j + length d))
  unfolding paper_answer answer_of
  says_yes e = rw (eq-eqb _ _ e)

  pub says_no : (paper_no l s rows j d ≡ 0 → ⊥) → paper_answer l s rows j d ≡ Err (paper_no l s rows j d)
  unfolding paper_answer answer_of
  says_no e = rw (ne_eqb _ _ e)

  -- what an accepted delivery says, by a limit whose number is one of a refusal
  module _ (refuses : l.refusal ≡ 0 → ⊥) (accepted : paper_no l s rows j d ≡ 0) where
    pub within_limit : F s (length j + length d) ≤ l.frames
    within_limit = ⊎_elim (λ q. absurd (refuses (sym (paper_over q) ∙ accepted))) (λ q. q) (lt_or_le l.frames (F s (length j + length d)))

    pub within_rows : F s (length j) < F s (length j + length d) → F s (length j + length d) ≤ rows
    within_rows p = ⊎_elim (λ q. absurd (omega (arith, paper_seven within_limit p q))) (λ q. q) (lt_or_le rows (F s (length j + length d)))

-- the samples held, with settings that are accepted
module _ (s : Settings) (ok : settings_no s ≡ 0) where
  sized : Sized s
  sized = accepted_settings s ok

  frames_parts : (n d : ℕ) → F s n + F s (n - F s n * hop_length s + d) ≡ F s (n + d)
  frames_parts n d = parts (frame_length s) (hop_length s) sized.some sized.within n d

  pub frames_start : (j : List ℤ) → frames_done s j * hop_length s ≤ length j
  frames_start j = starts (frame_length s) (hop_length s) sized.some sized.within (length j)

  pub length_held : (j : List ℤ) → length (samples_held s j) ≡ length j - frames_done s j * hop_length s
  length_held j = length-drop (frames_done s j * hop_length s) j

  pub held_few : (j : List ℤ) → length (samples_held s j) < frame_length s
  held_few j = omega (arith, length_held j, rest (frame_length s) (hop_length s) sized.some sized.within (length j), frames_start j)

  -- the frames that a delivery adds
  pub added : (j d : List ℤ) → F s (length j) + F s (length (samples_held s j) + length d) ≡ F s (length j + length d)
  added j d = ap (λ (n : ℕ). F s (length j) + F s (n + length d)) (length_held j) ∙ frames_parts (length j) (length d)

  -- a finished frame lies within the samples
  pub whole_frame : (j : List ℤ) (i : ℕ) → i < frames_done s j → i * hop_length s + frame_length s ≤ length j
  whole_frame j i h = fits (frame_length s) (hop_length s) sized.some sized.within (length j) i h
