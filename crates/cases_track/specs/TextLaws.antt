-- The first bytes of what `track_text` leaves are the input's text, and so a comparison with them tells whether the text agrees.
use Rattle.std.specs.Prelude.{Bool, false, List, ◌++◌, ◌≡◌, ℕ, ◌+◌, ◌-◌, ◌≤◌, min, ℤ, length, take, drop, replicate}
use Rattle.std.proofs.lemmas.Bool.{false≢true}
use Rattle.std.proofs.Common.{sym, ap, ◌∙◌, arith}
use Rattle.std.proofs.lemmas.List.{length-replicate}
use Rattle.lists.specs.PushLaws.{take_overwritten}
use Rattle.cases_io.specs.Little.{u32_at}
use Rattle.pitch_recording.specs.Recording.{recording_bytes, RecordingPrinted, recording_printed, printed_for}
use Rattle.recording_head.specs.declared.Head.{Head}
use Rattle.track_text.specs.Program.{longest_text, track_text, track_text_call}
use Rattle.cases_track.specs.Text.{Tells, from, whole, held, TextAgrees}

pub text_of : (head : Head) (b out : List ℕ) (x t : List ℤ) (r : ℕ) (after : List ℕ) (y u : List ℤ) → recording_printed r after y u ≡ track_text_call head b out x t → take r after ≡ track_text head b
unfolding track_text_call printed_for
text_of head b out x t r after y u e =
    let n : length (track_text head b) ≡ r = sym (ap (λ (p : RecordingPrinted). p.len) e) in
    ap (take r) (ap (λ (p : RecordingPrinted). p.out) e) ∙ take_overwritten (track_text head b) out r n

-- what is false tells a fact that does not hold
pub tells_not : {fact : Type 0} → (fact → ⊥) → Tells false fact
tells_not n = record { only = λ t. absurd (false≢true t); where_so = λ f. absurd (n f) }

-- n bytes of the input from `at` on are held, m more are counted, and k bytes of text are told
pub agrees_by : (head : Head) (body : List ℕ) (size : ℕ) (r : Bool) → u32_at body 4 ≤ longest_text → from body ≤ size
    → (n m at k : ℕ) → n ≡ held body size → m ≡ whole body size - held body size → at ≡ from body → k ≡ u32_at body 4
    → ((rest : List ℕ) → length rest ≡ m → Tells r (track_text head (take n (drop at body) ++ rest) ≡ take k (drop 8 body)))
    → Tells r (TextAgrees head body size)
agrees_by head body size r fits inside n m at k a b c d g =
    record {
      only = λ t. record {
        fits = fits;
        inside = inside;
        text = λ rest e. rw (← a, ← c, ← d) ((g rest (e ∙ sym b)).only t);
      };
      where_so = λ f.
          let zeros : List ℕ = replicate m 0 in
          let e : length zeros ≡ m = length-replicate m 0 in
          (g zeros e).where_so (rw (a, c, d) (f.text zeros (e ∙ b)));
    }

-- the same in the code's own places
pub agrees_at : (head : Head) (body : List ℕ) (size told zeros len : ℕ) (r : Bool) → told ≡ u32_at body 4 → zeros ≡ u32_at body 0 → told ≤ longest_text → 8 + told ≤ size
    → len ≡ min (size - (8 + told) + zeros) recording_bytes
    → ((rest : List ℕ) → length rest ≡ size - (8 + told) + zeros - len → Tells r (track_text head (take (8 + told + len - (8 + told)) (drop (8 + told) body) ++ rest) ≡ take (8 + told - 8) (drop 8 body)))
    → Tells r (TextAgrees head body size)
agrees_at head body size told zeros len r p q fits inside l g =
    let n : 8 + told + len - (8 + told) ≡ len = omega arith in
    let k : 8 + told - 8 ≡ told = omega arith in
    agrees_by head body size r (omega arith) (omega arith) (8 + told + len - (8 + told)) (size - (8 + told) + zeros - len) (8 + told) (8 + told - 8) (cc) (cc) (cc) (cc) g
