-- Every way through the reading's tests, with the plain facts that it shows: of a payload, and of a frame.
use Prim.Native.Nat.{ℕ, ◌+◌, ◌<◌, ◌≤◌}
use mathlib.Core.Path.{◌≡◌, refl, sym, subst}
use mathlib.Core.Bool.{Bool, true, false}
use mathlib.Core.List.{List, ◌++◌}
use native.Mathlib.Omega.{arith}
use native.Mathlib.Decide.{ℕ_discrete, dec_lt}
use borrow.Author.Tests.{lt-ltb, le-ltb}
use lib.ListN.{length, drop}
use Rattle.outcome.specs.Outcome.{Outcome, R, SW, Gives, missing_at, surplus_at}
use Rattle.octets.specs.Bytes.{byte, pair_at}
use Rattle.octets.proofs.Laws.{laid_fits}
use Rattle.apdu_stated.specs.Words.{Case, Instruction, Le1, Lc1Data, Lc1DataLe1, Lc3Data, Lc3DataLe2, Le3, shape_no}
use Rattle.apdu_stated.specs.Answers.{Says}
use Rattle.apdu_stated.specs.Table.{lc_field, le_read, lc_under, least_of, carried_by}
use Rattle.apdu_stated.specs.Reading.{Entry, Ordinary, Strict, lengths_of, short_of, extended_of, after_data, header_of, say_of, read_by}
use Rattle.apdu_stated.specs.Writing.{Parts, frame_of, write_by, buffer_by, writing_by}
use Rattle.apdu_stated.specs.Terms.{InTable, InStrictTable, EndsEarly, in_lc, in_short_data, in_extended_data, Carries, CarriesStrictly}
use Rattle.apdu_stated.specs.declared.Lengths.{Lengths}
use Rattle.apdu_stated.specs.declared.Lengths.TheVariants.{Found, Missing, Surplus}
use Rattle.apdu_stated.proofs.Cases
use Rattle.apdu_stated.proofs.Rows.{RowIn, least_one, least_none}

pub data Way (entry : Entry) (p : List ℕ) : Lengths → Type 0 where
  none : length p ≡ 0 → Way entry p (Found Instruction 0 0)
  le1 : length p ≡ 1 → Way entry p (Found Le1 0 (le_read 1 (byte p 0)))
  short : (byte p 0 ≡ 0 → ⊥) → length p ≡ 1 + byte p 0 → Way entry p (Found Lc1Data (byte p 0) 0)
  short_le : (byte p 0 ≡ 0 → ⊥) → length p ≡ 2 + byte p 0 → Way entry p (Found Lc1DataLe1 (byte p 0) (le_read 1 (byte p (1 + byte p 0))))
  le3 : byte p 0 ≡ 0 → length p ≡ 3 → Way entry p (Found Le3 0 (le_read 3 (pair_at p 1)))
  wide : byte p 0 ≡ 0 → (pair_at p 1 ≡ 0 → ⊥) → length p ≡ 3 + pair_at p 1 → Way entry p (Found Lc3Data (pair_at p 1) 0)
  wide_le2 : lc_under entry (pair_at p 1) ≡ false → byte p 0 ≡ 0 → length p ≡ 5 + pair_at p 1 → Way entry p (Found Lc3DataLe2 (pair_at p 1) (le_read 2 (pair_at p (3 + pair_at p 1))))
  missing : EndsEarly p → Way entry p Missing
  short_surplus : (byte p 0 ≡ 0 → ⊥) → 2 + byte p 0 < length p → Way entry p (Surplus (6 + byte p 0))
  le1_surplus : lc_under entry (pair_at p 1) ≡ false → byte p 0 ≡ 0 → length p ≡ 4 + pair_at p 1 → Way entry p (Surplus (7 + pair_at p 1))
  wide_surplus : lc_under entry (pair_at p 1) ≡ false → byte p 0 ≡ 0 → 5 + pair_at p 1 < length p → Way entry p (Surplus (9 + pair_at p 1))
  zero_surplus : lc_under entry (pair_at p 1) ≡ true → byte p 0 ≡ 0 → 3 < length p → Way entry p (Surplus 7)

module _ (entry : Entry) (p : List ℕ) where
  short_way : 2 ≤ length p → (byte p 0 ≡ 0 → ⊥) → Way entry p (short_of p)
  short_way two nz = go (dec_lt (length p) (1 + byte p 0)) (ℕ_discrete (length p) (1 + byte p 0)) (ℕ_discrete (length p) (2 + byte p 0))
    where
      b : ℕ
      b = byte p 0

      go : Dec (length p < 1 + byte p 0) → Dec (length p ≡ 1 + byte p 0) → Dec (length p ≡ 2 + byte p 0) → Way entry p (short_of p)
      go (yes h) e1 e2 = subst (Way entry p) (Cases.short_missing p (byte p 0) (byte p 0) refl refl h) (missing (in_short_data two nz h))
      go (no h) (yes e) e2 = subst (Way entry p) (Cases.short_data p (byte p 0) (byte p 0) refl refl e) (short nz e)
      go (no h) (no e1) (yes e) = subst (Way entry p) (Cases.short_le p (byte p 0) (byte p 0) refl refl _ e refl) (short_le nz e)
      go (no h) (no e1) (no e2) = subst (Way entry p) (Cases.short_surplus p (byte p 0) (byte p 0) refl refl (omega arith) e1 e2) (short_surplus nz (omega arith))

  after_way : lc_under entry (pair_at p 1) ≡ false → byte p 0 ≡ 0 → 3 < length p → Way entry p (after_data p (pair_at p 1))
  after_way d z more = go (dec_lt (length p) (3 + pair_at p 1)) (ℕ_discrete (length p) (3 + pair_at p 1)) (ℕ_discrete (length p) (4 + pair_at p 1)) (ℕ_discrete (length p) (5 + pair_at p 1))
    where
      go : Dec (length p < 3 + pair_at p 1) → Dec (length p ≡ 3 + pair_at p 1) → Dec (length p ≡ 4 + pair_at p 1) → Dec (length p ≡ 5 + pair_at p 1) → Way entry p (after_data p (pair_at p 1))
      go (yes h) e3 e4 e5 = subst (Way entry p) (Cases.after_missing p (pair_at p 1) h) (missing (in_extended_data z more h))
      go (no h) (yes e) e4 e5 = subst (Way entry p) (Cases.after_plain p (pair_at p 1) e) (wide z (omega arith) e)
      go (no h) (no e3) (yes e) e5 = subst (Way entry p) (Cases.after_one p (pair_at p 1) e) (le1_surplus d z e)
      go (no h) (no e3) (no e4) (yes e) =
          let next : 4 + pair_at p 1 ≡ 3 + pair_at p 1 + 1 = omega arith in
          subst (Way entry p) (Cases.after_le2 p (pair_at p 1) _ (pair_at p (3 + pair_at p 1)) e (rw next) refl) (wide_le2 d z e)
      go (no h) (no e3) (no e4) (no e5) = subst (Way entry p) (Cases.after_surplus p (pair_at p 1) (omega arith) e3 e4 e5) (wide_surplus d z (omega arith))

  extended_way : 2 ≤ length p → byte p 0 ≡ 0 → Way entry p (extended_of entry p)
  extended_way two z = go (dec_lt (length p) 3) (ℕ_discrete (length p) 3)
    where
      behind : (length p < 3 → ⊥) → (length p ≡ 3 → ⊥) → (b : Bool) → b ≡ lc_under entry (pair_at p 1) → Way entry p (extended_of entry p)
      behind h n true d =
          subst (Way entry p) (Cases.extended_lc_zero entry p (pair_at p 1) refl true d (omega arith) n refl) (zero_surplus (sym d) z (omega arith))
      behind h n false d =
          subst (Way entry p) (Cases.extended_after entry p (pair_at p 1) refl false d (omega arith) n (after_data p (pair_at p 1)) refl refl) (after_way (sym d) z (omega arith))

      go : Dec (length p < 3) → Dec (length p ≡ 3) → Way entry p (extended_of entry p)
      go (yes h) e = subst (Way entry p) (Cases.extended_missing entry p h) (missing (in_lc two z h))
      go (no h) (yes e) = subst (Way entry p) (Cases.extended_le3 entry p (pair_at p 1) refl _ e refl) (le3 z e)
      go (no h) (no e) = behind h e (lc_under entry (pair_at p 1)) refl

  pub way : Way entry p (lengths_of entry p)
  way = go (ℕ_discrete (length p) 0) (ℕ_discrete (length p) 1) (ℕ_discrete (byte p 0) 0)
    where
      go : Dec (length p ≡ 0) → Dec (length p ≡ 1) → Dec (byte p 0 ≡ 0) → Way entry p (lengths_of entry p)
      go (yes e) e1 z = subst (Way entry p) (Cases.lengths_none entry p e) (none e)
      go (no n0) (yes e) z = subst (Way entry p) (Cases.lengths_le1 entry p _ e refl) (le1 e)
      go (no n0) (no n1) (yes z) = subst (Way entry p) (Cases.lengths_extended entry p (extended_of entry p) n0 n1 z refl) (extended_way (omega arith) z)
      go (no n0) (no n1) (no z) = subst (Way entry p) (Cases.lengths_short entry p (short_of p) n0 n1 z refl) (short_way (omega arith) z)

-- the table that each entry reads by
abbrev pub TableOf : Entry → List ℕ → Says → List ℕ → Type 0
TableOf Ordinary = InTable
TableOf Strict = InStrictTable

-- what each entry's writer can carry
abbrev pub CarryOf : Entry → Case → ℕ → ℕ → Type 0
CarryOf Ordinary = Carries
CarryOf Strict = CarriesStrictly

-- a payload that is found in a shape is found in a row that the entry's table has
pub way_takes : (entry : Entry) (p : List ℕ) {l : Lengths} → Way entry p l → (s : Case) (lc le : ℕ) → Found s lc le ≡ l → RowIn entry s lc
way_takes entry p w = go w
  where
    row : (s t : Case) (a b c d : ℕ) → Found s a c ≡ Found t b d → least_of entry t ≤ b → RowIn entry s a
    row s t a b c d e m =
        let same : s ≡ t = cc in
        let as_long : a ≡ b = cc in
        rw (same, as_long) (record { least = m })

    some : (t : Case) (b : ℕ) → (b ≡ 0 → ⊥) → least_of entry t ≤ b
    some t b n = let most = least_one entry t in omega arith

    never : {A : Type 0} (s : Case) (lc le place : ℕ) → Found s lc le ≡ Surplus place → A
    never s lc le place e = let z : ◌≡◌ {A = ℕ} 0 1 = cc in absurd (omega arith)

    go : {l : Lengths} → Way entry p l → (s : Case) (lc le : ℕ) → Found s lc le ≡ l → RowIn entry s lc
    go (none h) s lc le e = row s Instruction lc _ le _ e (least_none entry Instruction _ refl refl)
    go (le1 h) s lc le e = row s Le1 lc _ le _ e (least_none entry Le1 _ refl refl)
    go (short nz h) s lc le e = row s Lc1Data lc _ le _ e (some Lc1Data _ nz)
    go (short_le nz h) s lc le e = row s Lc1DataLe1 lc _ le _ e (some Lc1DataLe1 _ nz)
    go (le3 z h) s lc le e = row s Le3 lc _ le _ e (least_none entry Le3 _ refl refl)
    go (wide z nz h) s lc le e = row s Lc3Data lc _ le _ e (some Lc3Data _ nz)
    go (wide_le2 d z h) s lc le e = row s Lc3DataLe2 lc _ le _ e (Cases.from_least entry _ d)
    go (missing early) s lc le e = let z : ◌≡◌ {A = ℕ} 0 1 = cc in absurd (omega arith)
    go (short_surplus nz h) s lc le e = never s lc le _ e
    go (le1_surplus d z h) s lc le e = never s lc le _ e
    go (wide_surplus d z h) s lc le e = never s lc le _ e
    go (zero_surplus d z h) s lc le e = never s lc le _ e

-- ---- the frame
-- what a frame says, as its payload's row says it
abbrev pub said_by : List ℕ → Case → ℕ → ℕ → Says
said_by frame s lc le = record { header = header_of frame; shape = shape_no s; data_at = 4 + lc_field s; lc = lc; le = le }

-- every way through the reading of a frame, with what it shows
pub data FrameWay (entry : Entry) (frame : List ℕ) : Outcome Says → Type 0 where
  under : length frame < 4 → FrameWay entry frame (SW 0x6a80)
  found : 4 ≤ length frame → (s : Case) (lc le : ℕ) → Found s lc le ≡ lengths_of entry (drop 4 frame) → FrameWay entry frame (Gives (said_by frame s lc le))
  ends : 4 ≤ length frame → Missing ≡ lengths_of entry (drop 4 frame) → FrameWay entry frame (missing_at (length frame))
  goes_on : 4 ≤ length frame → (place : ℕ) → Surplus place ≡ lengths_of entry (drop 4 frame) → FrameWay entry frame (surplus_at place)

by_lengths : (entry : Entry) (frame : List ℕ) → 4 ≤ length frame → (l : Lengths) → l ≡ lengths_of entry (drop 4 frame) → FrameWay entry frame (say_of frame l)
by_lengths entry frame long (Found s lc le) e = subst (FrameWay entry frame) (sym (Cases.say_found frame s lc le)) (found long s lc le e)
by_lengths entry frame long Missing e = subst (FrameWay entry frame) (sym (Cases.say_missing frame)) (ends long e)
by_lengths entry frame long (Surplus place) e = subst (FrameWay entry frame) (sym (Cases.say_surplus frame place)) (goes_on long place e)

pub frame_way : (entry : Entry) (frame : List ℕ) → FrameWay entry frame (read_by entry frame)
frame_way entry frame = go (dec_lt (length frame) 4)
  where
    go : Dec (length frame < 4) → FrameWay entry frame (read_by entry frame)
    go (yes h) = subst (FrameWay entry frame) (Cases.read_under entry frame h) (under h)
    go (no h) = subst (FrameWay entry frame) (sym (Cases.read_by_lem entry frame (omega arith))) (by_lengths entry frame (omega arith) (lengths_of entry (drop 4 frame)) refl)

-- ---- writing: every way through it, with the answer and the buffer, by either table
pub data WriteWay (entry : Entry) (w : Parts) (old : List ℕ) : Outcome ℕ × List ℕ → Type 0 where
  unfit : carried_by entry w.shape (length w.content) w.le ≡ false → WriteWay entry w old (R 5, old)
  no_room : carried_by entry w.shape (length w.content) w.le ≡ true → length old < length (frame_of w) → WriteWay entry w old (R 2, old)
  written : carried_by entry w.shape (length w.content) w.le ≡ true → length (frame_of w) ≤ length old
      → WriteWay entry w old (Gives (length (frame_of w)), frame_of w ++ drop (length (frame_of w)) old)

module _ (entry : Entry) (w : Parts) (old : List ℕ) where
  is_unfit : carried_by entry w.shape (length w.content) w.le ≡ false → (R 5, old) ≡ writing_by entry w old
  unfolding write_by buffer_by
  is_unfit c = rw c

  is_short : carried_by entry w.shape (length w.content) w.le ≡ true → length old < length (frame_of w) → (R 2, old) ≡ writing_by entry w old
  unfolding write_by buffer_by
  is_short c h = rw (c, lt-ltb (length old) (length (frame_of w)) h)

  is_written : carried_by entry w.shape (length w.content) w.le ≡ true → length (frame_of w) ≤ length old
      → (Gives (length (frame_of w)), frame_of w ++ drop (length (frame_of w)) old) ≡ writing_by entry w old
  unfolding write_by buffer_by
  is_written c h = rw (c, le-ltb (length old) (length (frame_of w)) h, laid_fits (frame_of w) old h)

  pub write_way : WriteWay entry w old (writing_by entry w old)
  write_way = go (carried_by entry w.shape (length w.content) w.le) refl (dec_lt (length old) (length (frame_of w)))
    where
      go : (b : Bool) → carried_by entry w.shape (length w.content) w.le ≡ b → Dec (length old < length (frame_of w)) → WriteWay entry w old (writing_by entry w old)
      go false c d = subst (WriteWay entry w old) (is_unfit c) (unfit c)
      go true c (yes h) = subst (WriteWay entry w old) (is_short c h) (no_room c h)
      go true c (no n) = subst (WriteWay entry w old) (is_written c (omega arith)) (written c (omega arith))
