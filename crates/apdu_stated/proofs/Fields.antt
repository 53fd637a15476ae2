-- The fields of a frame as they are written one after the other, and the writer's answers.
use Prim.Native.Nat.{ℕ, ◌+◌, ◌-◌, ◌/◌, ◌%◌, ◌<◌, ◌≤◌}
use mathlib.Core.Path.{◌≡◌, refl, ap, sym, ◌∙◌}
use mathlib.Core.Bool.{Bool, true, false, not}
use mathlib.Core.List.{List, [], ◌∷◌, ◌++◌}
use native.Mathlib.Omega.{arith}
use borrow.Author.Tests.{lt-ltb, le-ltb, ne_eqb, not-true, not-false}
use lib.Dec.{ltb}
use lib.ListN.{length, take, drop, length-append}
use Rattle.outcome.specs.Notation.{when◌then◌else◌}
use Rattle.outcome.specs.Outcome.{Outcome, R, Gives}
use Rattle.octets.specs.Bytes.{laid}
use Rattle.octets.proofs.Laws.{laid_then}
use Rattle.apdu_stated.specs.Words.{Case, ApduHeader, Instruction, Le1, Lc1Data, Lc1DataLe1, Lc3Data, Lc3DataLe2, Le3}
use Rattle.apdu_stated.specs.Table.{Ordinary, Strict, lc_field, le_field, lc_most, can_carry, in_row, carried_by, lc_bytes, le_bytes}
use Rattle.apdu_stated.specs.Writing.{Parts, parts_of, header_bytes, payload_of, frame_of, write_by, left_by, buffer_by}
use Rattle.apdu_stated.proofs.LaidOut.{carried, carried_ordinary}

-- ---- the Lc field
module _ (count long : ℕ) (old : List ℕ) (within : count ≤ lc_most long) where
  pub lc_none : long ≡ 0 → old ≡ laid (lc_bytes long count) old
  lc_none z = rw z

  module _ (new : List ℕ) where
    pub lc_one : long ≡ 1 → new ≡ laid (count % 256 ∷ []) old → new ≡ laid (lc_bytes long count) old
    lc_one z e =
        let small : count ≤ 255 = rw z at within in
        let same : count % 256 ≡ count = omega arith in
        e ∙ rw (z, same)

    pub lc_three : (long ≡ 0 → ⊥) → (long ≡ 1 → ⊥) → new ≡ laid (0 ∷ count / 256 % 256 ∷ count % 256 ∷ []) old → new ≡ laid (lc_bytes long count) old
    lc_three n0 n1 e =
        let small : count ≤ 65535 = rw (ne_eqb long 0 n0, ne_eqb long 1 n1) at within in
        let same : count / 256 % 256 ≡ count / 256 = omega arith in
        e ∙ rw (ne_eqb long 0 n0, ne_eqb long 1 n1, same)

pub lc_long_lem : (s : Case) (count : ℕ) → length (lc_bytes (lc_field s) count) ≡ lc_field s
lc_long_lem Instruction count = refl
lc_long_lem Le1 count = refl
lc_long_lem Lc1Data count = refl
lc_long_lem Lc1DataLe1 count = refl
lc_long_lem Lc3Data count = refl
lc_long_lem Lc3DataLe2 count = refl
lc_long_lem Le3 count = refl

pub le_long_lem : (s : Case) (le : ℕ) → length (le_bytes (le_field s) le) ≡ le_field s
le_long_lem Instruction le = refl
le_long_lem Le1 le = refl
le_long_lem Lc1Data le = refl
le_long_lem Lc1DataLe1 le = refl
le_long_lem Lc3Data le = refl
le_long_lem Lc3DataLe2 le = refl
le_long_lem Le3 le = refl

-- ---- the payload, and the frame
module _ (s : Case) (content : List ℕ) (le : ℕ) (old xs ys : List ℕ) where
  pub payload_then : (lc_long le_long : ℕ) → lc_long ≡ lc_field s → le_long ≡ le_field s → xs ≡ laid (lc_bytes lc_long (length content)) old
      → ys ≡ laid (content ++ le_bytes le_long le) (take (length xs - lc_long) (drop lc_long xs))
      → take lc_long xs ++ (ys ++ drop (length xs - lc_long) (drop lc_long xs)) ≡ laid (payload_of s content le) old
  unfolding payload_of
  payload_then lc_long le_long is_lc is_le first rest =
      laid_then (lc_bytes lc_long (length content)) (content ++ le_bytes le_long le) old xs ys lc_long (rw is_lc (lc_long_lem s (length content))) first rest
      ∙ rw (is_lc, is_le)

  pub frame_then : (h : ApduHeader) → xs ≡ laid (header_bytes h) old → ys ≡ laid (payload_of s content le) (take (length xs - 4) (drop 4 xs))
      → take 4 xs ++ (ys ++ drop (length xs - 4) (drop 4 xs)) ≡ laid (frame_of (parts_of h s content le)) old
  unfolding frame_of
  frame_then h first rest = laid_then (header_bytes h) (payload_of s content le) old xs ys 4 refl first rest

pub frame_long : (h : ApduHeader) (s : Case) (content : List ℕ) (le : ℕ) → length (frame_of (parts_of h s content le)) ≡ 4 + lc_field s + length content + le_field s
unfolding frame_of payload_of
frame_long h s content le =
    let lc = lc_long_lem s (length content) in
    let l = le_long_lem s le in
    simp length-append (omega arith)

-- ---- the writer's answers
-- a refusal leaves the buffer as it was; a frame stands at its front
pub refused : (h : ApduHeader) (s : Case) (content : List ℕ) (le : ℕ) (old : List ℕ) (k : ℕ) → let w = parts_of h s content le in
    R k ≡ write_by Ordinary w (length old) → (R k ≡ write_by Ordinary w (length old)) × (old ≡ buffer_by Ordinary w old)
unfolding buffer_by
refused h s content le old k e = (e, rw (← e))

pub wrote : (h : ApduHeader) (s : Case) (content : List ℕ) (le : ℕ) (old new : List ℕ) (n : ℕ) → let w = parts_of h s content le in
    new ≡ laid (frame_of w) old → Gives n ≡ write_by Ordinary w (length old) → (Gives n ≡ write_by Ordinary w (length old)) × (new ≡ buffer_by Ordinary w old)
unfolding buffer_by
wrote h s content le old new n is_new e = (e, is_new ∙ rw (← e))

module _ (h : ApduHeader) (s : Case) (content : List ℕ) (le room : ℕ) (a : Bool) (is_a : a ≡ can_carry s (length content) le) where
  pub no_fit : not a ≡ true → R 5 ≡ write_by Ordinary (parts_of h s content le) room
  unfolding write_by
  no_fit n = rw (carried_ordinary s (length content) le, ← is_a, not-true a n)

  module _ (fits : not a ≡ false) (lc_long le_long : ℕ) (is_lc : lc_long ≡ lc_field s) (is_le : le_long ≡ le_field s) where
    pub no_room : room < 4 + lc_long + length content + le_long → R 2 ≡ write_by Ordinary (parts_of h s content le) room
    unfolding write_by
    no_room r =
        let long = frame_long h s content le in
        rw (carried_ordinary s (length content) le, ← is_a, not-false a fits, lt-ltb room (length (frame_of (parts_of h s content le))) (omega arith))

    pub has_room : 4 + lc_long + length content + le_long ≤ room → Gives (4 + lc_long + length content + le_long) ≡ write_by Ordinary (parts_of h s content le) room
    unfolding write_by
    has_room r =
        let long = frame_long h s content le in
        let same : 4 + lc_long + length content + le_long ≡ length (frame_of (parts_of h s content le)) = omega arith in
        rw (carried_ordinary s (length content) le, ← is_a, not-false a fits, le-ltb room (length (frame_of (parts_of h s content le))) (omega arith), same)

-- ---- the strict writer: where its table has no such row R5, else as the writer
-- the two are one where they can carry the same
module _ (w : Parts) (alike : carried_by Ordinary w.shape (length w.content) w.le ≡ carried_by Strict w.shape (length w.content) w.le) where
  pub write_alike : (room : ℕ) → write_by Ordinary w room ≡ write_by Strict w room
  unfolding write_by
  write_alike room = ap (λ (b : Bool). when not b then R 5 else when ltb room (length (frame_of w)) then R 2 else Gives (length (frame_of w))) alike

  pub buffer_alike : (old : List ℕ) → buffer_by Ordinary w old ≡ buffer_by Strict w old
  unfolding buffer_by
  buffer_alike old = ap (λ (o : Outcome ℕ). left_by o (frame_of w) old) (write_alike (length old))

row_alone : (s : Case) (n le : ℕ) → in_row Strict s n ≡ true → carried_by Ordinary s n le ≡ carried_by Strict s n le
unfolding carried_by
row_alone s n le e = carried_ordinary s n le ∙ rw e

module _ (w : Parts) where
  pub strict_out : in_row Strict w.shape (length w.content) ≡ false → (room : ℕ) → R 5 ≡ write_by Strict w room
  unfolding write_by carried_by
  strict_out e room = rw e

  pub strict_out_kept : in_row Strict w.shape (length w.content) ≡ false → (old : List ℕ) → old ≡ buffer_by Strict w old
  unfolding buffer_by
  strict_out_kept e old = rw (← strict_out e (length old))

  pub strict_same : in_row Strict w.shape (length w.content) ≡ true → (room : ℕ) → write_by Ordinary w room ≡ write_by Strict w room
  strict_same e = write_alike w (row_alone w.shape (length w.content) w.le e)

  pub strict_same_buffer : in_row Strict w.shape (length w.content) ≡ true → (old : List ℕ) → buffer_by Ordinary w old ≡ buffer_by Strict w old
  strict_same_buffer e = buffer_alike w (row_alone w.shape (length w.content) w.le e)

module _ (h : ApduHeader) (s : Case) (content : List ℕ) (le : ℕ) (old : List ℕ) (a : Bool) (is_a : a ≡ in_row Strict s (length content)) where
  pub strict_unfit : not a ≡ true → R 5 ≡ write_by Strict (parts_of h s content le) (length old)
  strict_unfit n = strict_out (parts_of h s content le) (sym is_a ∙ not-true a n) (length old)

  pub strict_kept : not a ≡ true → old ≡ buffer_by Strict (parts_of h s content le) old
  strict_kept n = strict_out_kept (parts_of h s content le) (sym is_a ∙ not-true a n) old

  pub strict_wrote : not a ≡ false → (o : Outcome ℕ) → o ≡ write_by Ordinary (parts_of h s content le) (length old) → o ≡ write_by Strict (parts_of h s content le) (length old)
  strict_wrote n o e = e ∙ strict_same (parts_of h s content le) (sym is_a ∙ not-false a n) (length old)

  pub strict_laid : not a ≡ false → (new : List ℕ) → new ≡ buffer_by Ordinary (parts_of h s content le) old → new ≡ buffer_by Strict (parts_of h s content le) old
  strict_laid n new e = e ∙ strict_same_buffer (parts_of h s content le) (sym is_a ∙ not-false a n) old

-- what the fields' writers ask
pub asks_room : (s : Case) (n long le_long room : ℕ) → long ≡ lc_field s → 4 + long + n + le_long ≤ room → 4 + (lc_field s + n) ≤ room
asks_room s n long le_long room is_long fits = omega arith

pub asks_lc : (s : Case) (n le : ℕ) (a : Bool) → a ≡ can_carry s n le → not a ≡ false → n ≤ lc_most (lc_field s)
asks_lc s n le a is_a passed = (carried s n le (sym is_a ∙ not-false a passed)).lc_high

pub asks_within : (s : Case) (n long : ℕ) → long ≡ lc_field s → n ≤ lc_most (lc_field s) → n ≤ lc_most long
asks_within s n long e h = rw e h
