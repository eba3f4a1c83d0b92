-- Laws of what is printed: the record that two reads bring, its line, and the lines of a loop over records.
use Rattle.std.specs.Prelude.{◌≡◌, List, [], ◌++◌, ℕ, suc, ◌+◌, ◌-◌, ◌<◌, ◌≤◌, ℤ, length, take, drop, Option, None, Some, IfSome, refl}
use Rattle.std.proofs.Common.{sym, ap, ◌∙◌, subst, append_assoc, append-nil, length-append, length-take-le, eq-eqb, ne_eqb, take_all, arith, take_at, drop_at}
use Rattle.std.specs.Io.KnownBytes.{Appends, Consumes, IsAtEnd}
use Rattle.std.proofs.KnownBytes.{Appends-nil, Appends-trans}
use Rattle.std.proofs.Math.Decide.{dec_lt}
use Rattle.std.proofs.Math.Seq.{take-append-le, take-append-add}
use borrow.Rule.Slice.PartMut.{put_mid}
use Rattle.lists.specs.PushLaws.{take_overwritten}
use Rattle.recording_io.specs.FilledLaws.{take_more}
use Rattle.refusals.specs.Refusals.{number_told}
use Rattle.frames_text.specs.declared.Line.{Line}
use Rattle.frames_text.specs.Frames.{record_head, record_length, record_no, record_text, FramePrinted, frame_printed, frame_text_call}
use Rattle.frames.specs.Output.{record_of, frames_output, RecordRead, LinePrinted, AllPrinted, FrontPrinted}

-- ---- a record
-- what a read brings: as many bytes as there is room for, or all that there are
pub front_of : (n : ℕ) (xs bs ys : List ℕ) → xs ≡ bs ++ ys → length bs ≤ n → (length bs < n → ys ≡ []) → bs ≡ take n xs
front_of n xs bs ys e h f = by (dec_lt (length bs) n)
  where
    by : Dec (length bs < n) → bs ≡ take n xs
    by (yes l) =
        let all : xs ≡ bs = e ∙ ap (λ (zs : List ℕ). bs ++ zs) (f l) ∙ append-nil bs in
        sym (take_all n bs h) ∙ ap (take n) (sym all)
    by (no m) = sym (take_at bs ys n (omega arith)) ∙ ap (take n) (sym e)

-- the head, and then as many bytes more as it asks for
pub record_read : (a b d : Option (List ℕ)) (h t : List ℕ) (e : ℕ) → Consumes a b h → (length h < record_head → IsAtEnd b) → length h ≤ record_head → e ≡ record_length h → length h ≤ e
    → Consumes b d t → length t ≤ e - length h → (length t < e - length h → IsAtEnd d) → IfSome a (λ xs. RecordRead xs (h ++ t) d)
unfolding record_of
record_read None b d h t e p f l m k q n g = tt
record_read (Some xs) None d h t e p f l m k q n g = absurd p
record_read (Some xs) (Some ys) None h t e p f l m k q n g = absurd q
record_read (Some xs) (Some ys) (Some zs) h t e p f l m k q n g =
    let head : h ≡ take record_head xs = front_of record_head xs h ys p l f in
    let tail : t ≡ take (e - length h) ys = front_of (e - length h) ys t zs q n g in
    let split : length h + (e - length h) ≡ e = omega arith in
    let front : take e xs ≡ h ++ t = ap (take e) p ∙ ap (λ (j : ℕ). take j (h ++ ys)) (sym split) ∙ take-append-add h ys (e - length h) ∙ ap (λ (l : List ℕ). h ++ l) (sym tail) in
    let is : h ++ t ≡ record_of xs = sym front ∙ ap (λ (j : ℕ). take j xs) (m ∙ ap record_length head) in
    let all : xs ≡ (h ++ t) ++ zs = p ∙ ap (λ (l : List ℕ). h ++ l) q ∙ sym (append_assoc h t zs) in
    let long : length xs ≡ length (h ++ t) + length zs = ap (length {A = ℕ}) all ∙ length-append (h ++ t) zs in
    record {
      bytes_are = is;
      within = omega arith;
      none = λ z.
          let few : length h ≡ 0 = omega (arith, length-append h t) in
          let end : ys ≡ [] = f (omega arith) in
          let sum : length xs ≡ length h + length ys = ap (length {A = ℕ}) p ∙ length-append h ys in
          omega (arith, ap (length {A = ℕ}) end);
      rest = ap (λ (l : List ℕ). Some l) (sym (drop_at (h ++ t) zs (length (record_of xs)) (ap (length {A = ℕ}) is)) ∙ ap (drop (length (record_of xs))) (sym all));
    }

-- the two reads of one buffer: c1 bytes at its start, in a part as long as a head, and c2 behind them, in one as long as the rest of the record
pub two_reads : (a b d : Option (List ℕ)) (c1 c2 e : ℕ) (part1 after part2 : List ℕ) → Consumes a b (take c1 part1) → c1 ≤ length part1 → length part1 ≡ record_head → (c1 < length part1 → IsAtEnd b)
    → e ≡ record_length (take c1 (part1 ++ after)) → c1 ≤ e → Consumes b d (take c2 part2) → c2 ≤ length part2 → length part2 ≡ e - c1 → (c2 < length part2 → IsAtEnd d)
    → IfSome a (λ xs. RecordRead xs (take (c1 + c2) (put_mid c1 (e - c1) (part1 ++ after) part2)) d)
two_reads a b d c1 c2 e part1 after part2 p l s f m k q n r g =
    let head = take c1 part1 in
    let tail = take c2 part2 in
    let long1 : length head ≡ c1 = length-take-le c1 part1 l in
    let long2 : length tail ≡ c2 = length-take-le c2 part2 n in
    let same : take c1 (part1 ++ after) ≡ head = take-append-le c1 part1 after l in
    let room : c1 ≤ length (part1 ++ after) = omega (arith, length-append part1 after) in
    let both : head ++ tail ≡ take (c1 + c2) (put_mid c1 (e - c1) (part1 ++ after) part2) =
    sym (take_more c1 (e - c1) c2 (part1 ++ after) part2 room n ∙ ap (λ (h : List ℕ). h ++ tail) same) in
    subst (λ (bs : List ℕ). IfSome a (λ xs. RecordRead xs bs d)) both
    (record_read a b d head tail e p (λ h. f (omega arith)) (omega arith) (m ∙ ap record_length same) (omega arith) q (omega arith) (λ h. g (omega arith)))

-- ---- the lines
pub last_none : (n : ℕ) (xs : List ℕ) → length xs ≡ 0 → frames_output (suc n) xs ≡ []
unfolding frames_output
last_none n xs e = rw (eq-eqb (length xs) 0 e)

pub last_refused : (n : ℕ) (xs : List ℕ) → 0 < length xs → (record_no (record_of xs) ≡ 0 → ⊥) → frames_output (suc n) xs ≡ record_text (record_of xs)
unfolding frames_output
last_refused n xs l f = rw (ne_eqb (length xs) 0 (λ e. omega arith), ne_eqb (record_no (record_of xs)) 0 f) (append-nil (record_text (record_of xs)))

pub line_more : (n : ℕ) (xs : List ℕ) → 0 < length xs → record_no (record_of xs) ≡ 0 → frames_output (suc n) xs ≡ record_text (record_of xs) ++ frames_output n (drop (length (record_of xs)) xs)
unfolding frames_output
line_more n xs l e = rw (ne_eqb (length xs) 0 (λ z. omega arith), eq-eqb (record_no (record_of xs)) 0 e)

-- what a call of `frame_text` leaves
pub line_of : (line : Line) (after : List ℕ) (y : List ℤ) (b out : List ℕ) (x : List ℤ) → frame_printed line after y ≡ frame_text_call b out x → (take line.len after ≡ record_text b) × (number_told line.answer ≡ record_no b)
unfolding frame_text_call
line_of line after y b out x e =
    let n : length (record_text b) ≡ line.len = sym (ap (λ (p : FramePrinted). p.len) e) in
    (ap (take line.len) (ap (λ (p : FramePrinted). p.out) e) ∙ take_overwritten (record_text b) out line.len n, ap (λ (p : FramePrinted). p.number) e)

-- one record: none, a refused one and an accepted one
pub printed_none : (a b o : Option (List ℕ)) (bytes : List ℕ) → IfSome a (λ xs. RecordRead xs bytes b) → length bytes ≡ 0 → IfSome a (λ xs. AllPrinted xs o o)
printed_none None b o bytes p e = tt
printed_none (Some xs) b o bytes p e = record { lines = λ n. rw (last_none n xs (p.none e)) (Appends-nil o) }

pub printed_refused : (a b o q : Option (List ℕ)) (bytes : List ℕ) → IfSome a (λ xs. RecordRead xs bytes b) → (length bytes ≡ 0 → ⊥) → (record_no bytes ≡ 0 → ⊥) → Appends o q (record_text bytes)
    → IfSome a (λ xs. AllPrinted xs o q)
printed_refused None b o q bytes p f g w = tt
printed_refused (Some xs) b o q bytes p f g w = record {
  lines = λ n.
      let some : 0 < length xs = omega (arith, p.within) in
      let wrong : record_no (record_of xs) ≡ 0 → ⊥ = λ e. g (ap record_no p.bytes_are ∙ e) in
      subst (Appends o q) (ap record_text p.bytes_are ∙ sym (last_refused n xs some wrong)) w;
}

pub printed_line : (a b o q : Option (List ℕ)) (bytes : List ℕ) → IfSome a (λ xs. RecordRead xs bytes b) → (length bytes ≡ 0 → ⊥) → record_no bytes ≡ 0 → Appends o q (record_text bytes)
    → IfSome a (λ xs. LinePrinted xs o q b)
printed_line None b o q bytes p f e w = tt
printed_line (Some xs) b o q bytes p f e w = record {
  some = omega (arith, p.within);
  accepted = sym (ap record_no p.bytes_are) ∙ e;
  line = subst (Appends o q) (ap record_text p.bytes_are) w;
  rest = p.rest;
}

-- ---- a loop over records, of which N are read at most
pub front_none : (n : ℕ) (a o : Option (List ℕ)) → IfSome a (λ xs. FrontPrinted n (frames_output n xs) o o a)
front_none n None o = tt
front_none n (Some xs) o = record { front = []; xs = xs; has = refl; printed = Appends-nil o; behind = refl }

pub front_line : (N n m : ℕ) (a b d o p q : Option (List ℕ)) → n ≡ suc m → IfSome a (λ xs. FrontPrinted n (frames_output N xs) o p b) → IfSome b (λ ys. LinePrinted ys p q d)
    → IfSome a (λ xs. FrontPrinted m (frames_output N xs) o q d)
front_line N n m None b d o p q e h k = tt
front_line N n m (Some xs) b d o p q e h k =
    let l : LinePrinted h.xs p q d = subst (λ (c : Option (List ℕ)). IfSome c (λ ys. LinePrinted ys p q d)) h.has k in
    let line = record_text (record_of h.xs) in
    record {
      front = h.front ++ line;
      xs = drop (length (record_of h.xs)) h.xs;
      has = l.rest;
      printed = Appends-trans o p q _ _ h.printed l.line;
      behind =
          h.behind
          ∙ ap (λ (j : ℕ). h.front ++ frames_output j h.xs) e
          ∙ ap (λ (l : List ℕ). h.front ++ l) (line_more m h.xs l.some l.accepted)
          ∙ sym (append_assoc h.front line (frames_output m (drop (length (record_of h.xs)) h.xs)));
    }

pub front_all : (N n m : ℕ) (a b o p q : Option (List ℕ)) → n ≡ suc m → IfSome a (λ xs. FrontPrinted n (frames_output N xs) o p b) → IfSome b (λ ys. AllPrinted ys p q)
    → IfSome a (λ xs. Appends o q (frames_output N xs))
front_all N n m None b o p q e h k = tt
front_all N n m (Some xs) b o p q e h k =
    let l : AllPrinted h.xs p q = subst (λ (c : Option (List ℕ)). IfSome c (λ ys. AllPrinted ys p q)) h.has k in
    subst (Appends o q) (sym (h.behind ∙ ap (λ (j : ℕ). h.front ++ frames_output j h.xs) e)) (Appends-trans o p q _ _ h.printed (l.lines m))

pub front_full : (N n : ℕ) (a b o p : Option (List ℕ)) → n ≡ 0 → IfSome a (λ xs. FrontPrinted n (frames_output N xs) o p b) → IfSome a (λ xs. Appends o p (frames_output N xs))
unfolding frames_output
front_full N n None b o p e h = tt
front_full N n (Some xs) b o p e h = subst (Appends o p) (sym (h.behind ∙ ap (λ (j : ℕ). h.front ++ frames_output j h.xs) e ∙ append-nil h.front)) h.printed
