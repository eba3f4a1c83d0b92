-- `Delivery::new_frames` meets its contract: a count past every number is over each limit, and else the frames in all samples are counted.
use Rattle.std.proofs.Common.{◌≡◌, ℕ, ◌+◌, ◌<◌, ◌≤◌, arith}
use Rattle.pitch_settings.specs.declared.Settings.{Settings}
use Rattle.pitch_settings.specs.Settings.{settings_no}
use Rattle.pitch_settings.specs.SettingsLaws.{accepted_settings}
use Rattle.track_paper.specs.Paper.{F}
use Rattle.track_paper.specs.FramesLaws.{many}
use Rattle.track_refusal.proofs.Delivery.new_frames.Goals as goal

-- so many samples make over 4,096 frames
past : (s : Settings) (n : ℕ) → settings_no s ≡ 0 → 18446744073709551616 ≤ n → 4096 < F s n
past s n h p = let z = accepted_settings s h in many _ _ z.some z.within n 4096 (omega arith)

pub returns-in_err-n : goal.returns-in_err-n
returns-in_err-n c =
    let a = c.args in
    let much : 18446744073709551616 ≤ a.self.count + a.self.samples = omega (arith, c.in_err-n.ensures) in
    rw c.from_residual.ensures (omega (arith, past a.s.settings (a.self.count + a.self.samples) a.s.analysed much, c.requires))
