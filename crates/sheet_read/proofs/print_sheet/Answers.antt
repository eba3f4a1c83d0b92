-- `sheet_read::print_sheet` meets its contract: what is written first is the input's text, whatever follows the bytes that were looked at.
use Rattle.std.proofs.Common.{◌≡◌, ltb, ℕ, zero, suc, ◌+◌, ◌<◌, ◌++◌, List, [], length, take, ℤ, Option, Some, IfSome, sym, ap, ◌∙◌, subst, length-append, arith, lt-ltb}
use Rattle.std.specs.Io.KnownBytes.{Appends, IsAtEnd}
use Rattle.std.proofs.lemmas.Result.{on_ok_weaker}
use Rattle.lists.specs.PushLaws.{take_overwritten}
use Rattle.recording_io.specs.KnownLaws.{known_bytes}
use Rattle.sheet_text.specs.Program.{SheetPrinted, sheet_printed, sheet_text, sheet_text_call}
use Rattle.sheet_read.proofs.print_sheet.Goals as goal

-- the first bytes that `sheet_text` leaves are the input's text
text_of : (p out : List ℕ) (table : List ℤ) (r : ℕ) (after : List ℕ) (y : List ℤ) → sheet_printed r after y ≡ sheet_text_call p out table → take r after ≡ sheet_text p
unfolding sheet_text_call
text_of p out table r after y e =
    let n : length (sheet_text p) ≡ r = sym (ap (λ (q : SheetPrinted). q.len) e) in
    ap (take r) (ap (λ (q : SheetPrinted). q.out) e) ∙ take_overwritten (sheet_text p) out r n

-- whether bytes follow the buffer is told by one read past it
follow : (rest ys : List ℕ) (new : Option (List ℕ)) (more : ℕ) → length rest ≡ more → new ≡ Some ys → (more < 1 → IsAtEnd new) → ltb 0 (length (rest ++ ys)) ≡ ltb 0 more
follow rest ys new zero e p end =
    let none : ys ≡ [] = subst IsAtEnd p (end (omega arith)) in
    let long : length (rest ++ ys) ≡ 0 = length-append rest ys ∙ omega (arith, ap (length {A = ℕ}) none) in
    ap (ltb 0) long
follow rest ys new (suc n) e p end =
    let long : length (rest ++ ys) ≡ suc (n + length ys) = length-append rest ys ∙ omega arith in
    ap (ltb 0) long ∙ lt-ltb 0 (suc (n + length ys)) (omega arith) ∙ sym (lt-ltb 0 (suc n) (omega arith))

pub returns : goal.returns
returns g c =
    let read = c.in-Ok.ensures in
    let bytes = read.bytes in
    let rest = bytes.0 in
    let old = g.W.Write.contents c.args.output.now in
    let new = g.W.Write.contents c.write_output.new.output in
    on_ok_weaker {P = Appends old new (take c.sheet_text-r.result c.sheet_text-r.new.out)} {Q = IfSome (g.R.Read.remaining c.args.input.now) (λ xs. Appends old new (sheet_text xs))} c.write_output.result
    (λ w.
    known_bytes _ _ (take c.in-Ok.whole.count c.read_whole.new.buf) rest (λ xs. Appends old new (sheet_text xs)) bytes.2
    (λ ys at_ys.
    let more = follow rest ys _ _ bytes.1 at_ys read.end in
    subst (Appends old new) (text_of _ _ _ _ _ _ (c.sheet_text-r.ensures.by_index (rest ++ ys) more)) w))
    c.write_output.ensures
