-- `pitch_recording::take_recording` meets its contract.
use Rattle.std.proofs.Common.{◌≡◌, refl, List, ◌++◌, ℕ, ℤ, ◌-◌, ◌/◌, ◌≤◌, length, take, drop, sym, ap, ◌∙◌, arith, rules, length-take-le}
use Rattle.lists.specs.Fill.{overwritten}
use Rattle.pitch_input.specs.Input.{samples_from}
use Rattle.pitch_input.specs.InputLaws.{loaded_over}
use Rattle.refusals.specs.Refusals.{refusal_number, number_told}
use Rattle.recording_head.specs.declared.Head.{Head}
use Rattle.recording_head.specs.Head.{bytes_of_head}
use Rattle.pitch_recording.specs.Recording.{recording_samples, samples_in, recording_no, take_call}
use Rattle.pitch_recording.specs.RecordingLaws.{Ready, at_hand, few_samples, samples_count, none_after, refused_answer, taken_outcome}
use Rattle.pitch_recording.proofs.take_recording.Goals as goal

-- an input b that is all at hand, and a head of `size` bytes: its samples have room in x
module _ (head : Head) (b : List ℕ) (size : ℕ) (sized : size ≡ bytes_of_head head) where
  counted : (length b - size) / 2 ≡ length (samples_in head b)
  counted = omega (arith, sized, samples_count head b)

  room : Ready head b → (x : List ℤ) → recording_samples ≤ length x → (length b - size) / 2 ≤ length x
  room w x h = omega (arith, few_samples _ w.analysed _ w.few, counted)

pub returns-in_err-check : goal.returns-in_err-check
returns-in_err-check c rest e =
    let n : number_told c.from_residual.result ≡ refusal_number c.in_err-check.field-0.0 = search rules in
    refused_answer _ _ _ c.from_residual.result c.from_residual.ensures.0 (n ∙ c.in_err-check.ensures rest e)

pub head_settings-settings-requires : goal.head_settings-settings-requires
head_settings-settings-requires c = (at_hand _ _ _ 0 c.args.input.full c.in_ok-check.ensures refl).1.enough

pub overflow_sub-n : goal.overflow_sub-n
overflow_sub-n c =
    let w = at_hand _ _ _ 0 c.args.input.full c.in_ok-check.ensures refl in
    omega (arith, c.head_size-size.ensures, w.1.enough)

pub slice_bounds-load_samples-end : goal.slice_bounds-load_samples-end
slice_bounds-load_samples-end c =
    let w = at_hand _ _ _ 0 c.args.input.full c.in_ok-check.ensures refl in
    room _ _ _ c.head_size-size.ensures w.1 c.args.samples.now c.requires

pub slice_bounds-load_samples-end-2 : goal.slice_bounds-load_samples-end-2
slice_bounds-load_samples-end-2 c =
    let w = at_hand _ _ _ 0 c.args.input.full c.in_ok-check.ensures refl in
    sym (length-take-le _ c.args.samples.now (room _ _ _ c.head_size-size.ensures w.1 c.args.samples.now c.requires))

pub load_samples-requires : goal.load_samples-requires
load_samples-requires c =
    let w = at_hand _ _ _ 0 c.args.input.full c.in_ok-check.ensures refl in
    let r = room _ _ _ c.head_size-size.ensures w.1 c.args.samples.now c.requires in
    rw (length-take-le _ c.args.samples.now r) (omega (arith, c.head_size-size.ensures, w.1.enough))

-- the samples `out` that are loaded over the front of x
loaded_is : (head : Head) (b : List ℕ) (size : ℕ) (sized : size ≡ bytes_of_head head) (x out : List ℤ) → (length b - size) / 2 ≤ length x
    → out ≡ samples_from b size (length (take ((length b - size) / 2) x)) → out ++ drop ((length b - size) / 2) x ≡ overwritten (samples_in head b) x
unfolding samples_in
loaded_is head b size sized x out r e =
    loaded_over b size ((length b - size) / 2) x out r e ∙ ap (λ (n : ℕ). overwritten (samples_from b n ((length b - n) / 2)) x) sized

pub returns : goal.returns
returns c rest e =
    let a = c.args in
    let b = a.input.bytes.now in
    let w = at_hand _ _ _ 0 c.args.input.full c.in_ok-check.ensures refl in
    let g = none_after b rest a.input.more w.0 e in
    let z = ap (recording_no a.input.head) (sym g) ∙ sym (c.in_ok-check.ensures rest e) in
    let size = c.head_size-size.ensures in
    let loaded = loaded_is a.input.head b _ size a.samples.now c.load_samples.new.out (room _ _ _ size w.1 a.samples.now c.requires) c.load_samples.ensures in
    taken_outcome a.input.head b a.samples.now _ _ _ z c.head_settings-settings.ensures (counted a.input.head b _ size) loaded
    ∙ ap (λ (l : List ℕ). take_call a.input.head l a.samples.now) (sym g)
