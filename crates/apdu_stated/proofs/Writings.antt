-- Writing by either table, and the way there and back: the theorems on both writers at once.
use Prim.Native.Nat.{ℕ, ◌<◌, ◌≤◌}
use mathlib.Core.Path.{◌≡◌, refl, ap, ap₂, sym, subst, ◌∙◌}
use mathlib.Core.Bool.{Bool, true, false, and-false, true≢false}
use mathlib.Core.List.{List, ◌++◌}
use mathlib.Core.Logic.{◌↔◌}
use native.Mathlib.Omega.{arith}
use lib.ListN.{length, take, drop}
use lib.Seq.{take_at}
use Rattle.outcome.specs.Outcome.{Outcome, R, Gives}
use Rattle.outcome.proofs.Laws.{gives_same, r_gives}
use Rattle.octets.specs.Bytes.{AreBytes}
use Rattle.apdu_stated.specs.Words.{ApduHeader, Case, Instruction, Le1, Lc1Data, Lc1DataLe1, Lc3Data, Lc3DataLe2, Le3, shape_no}
use Rattle.apdu_stated.specs.Answers.{Apdu, Says, says_of}
use Rattle.apdu_stated.specs.Table.{lc_least, can_carry, least_of, carried_by}
use Rattle.apdu_stated.specs.Reading.{Entry, Ordinary, Strict, read_by, data_of}
use Rattle.apdu_stated.specs.Writing.{Parts, parts_of, frame_of, writing_by}
use Rattle.apdu_stated.specs.Terms.{IsFrameOf, apdu_of}
use Rattle.apdu_stated.specs.Claims
use Rattle.apdu_stated.proofs.Ways.{TableOf, CarryOf, WriteWay, unfit, no_room, written, write_way}
use Rattle.apdu_stated.proofs.LaidOut.{carried, carried_ordinary}
use Rattle.apdu_stated.proofs.Frames.{Built, said, frame_bytes, table_read, table_cut}
use Rattle.apdu_stated.proofs.Entries.{built_entry, entry_built, can, carried_carries}
use Rattle.apdu_stated.proofs.Numbers.{shape_same}
use Rattle.apdu_stated.proofs.Rows.{RowIn, carried_by_lem, carried_of, iso_row, row_iso}
use Rattle.apdu_stated.proofs.Readings.{table_of, row_of, in_table_of, low_of, read_exactly, of_table}

-- ---- writing, by either table
pub carries_of : (entry : Entry) (s : Case) (n le : ℕ) → carried_by entry s n le ≡ true → CarryOf entry s n le
carries_of Ordinary s n le e = carried_carries s n le (carried s n le (carried_of Ordinary s n le e).1)
carries_of Strict s n le e = let c = carried_of Strict s n le e in record { carries = carried_carries s n le (carried s n le c.1); row = iso_row s n c.0 }

pub carries_by : (entry : Entry) (s : Case) (n le : ℕ) → CarryOf entry s n le → carried_by entry s n le ≡ true
carries_by Ordinary s n le c = carried_ordinary s n le ∙ can s n le c
carries_by Strict s n le c = carried_by_lem Strict s n le (row_iso s n c.row) (can s n le c.carries)

pub fits_exactly : (entry : Entry) → Claims.FitsExactly (CarryOf entry) (carried_by entry)
fits_exactly entry s n le = (carries_of entry s n le, carries_by entry s n le)

pub frame_of_lem : (entry : Entry) (w : Parts) → carried_by entry w.shape (length w.content) w.le ≡ true → IsFrameOf (TableOf entry) w (frame_of w)
frame_of_lem entry w c =
    let t = carried_of entry w.shape (length w.content) w.le c in
    record {
      says = said w;
      table = in_table_of entry (frame_of w) w.content (said w) w.shape refl t.0 (built_entry (frame_of w) w (record { layout = refl; carried = t.1 }));
      header = refl;
      shape = refl;
      le = refl;
    }

pub parts_same : (v w : Parts) → v.header ≡ w.header → v.shape ≡ w.shape → v.content ≡ w.content → v.le ≡ w.le → v ≡ w
parts_same v w a b c d =
    ap₂ (λ (h : ApduHeader) (s : Case). parts_of h s v.content v.le) a b ∙ ap₂ (λ (l : List ℕ) (le : ℕ). parts_of w.header w.shape l le) c d

-- the table's frame of these parts is the definitions', and can be carried
pub record Writable (entry : Entry) (w : Parts) (frame : List ℕ) : Type 0 where
  pub built : Built frame w
  pub carried : carried_by entry w.shape (length w.content) w.le ≡ true

pub is_built : (entry : Entry) (w : Parts) (frame : List ℕ) → IsFrameOf (TableOf entry) w frame → Writable entry w frame
is_built entry w frame i =
    let f = entry_built (table_of entry frame w.content i.says i.table) in
    let same = f.same in
    let shape : f.parts.shape ≡ w.shape = shape_same f.parts.shape w.shape (ap (λ (x : Says). x.shape) same ∙ i.shape) in
    let parts = parts_same f.parts w (ap (λ (x : Says). x.header) same ∙ i.header) shape f.holds (ap (λ (x : Says). x.le) same ∙ i.le) in
    let built : Built frame w = subst (Built frame) parts f.built in
    let lc : i.says.lc ≡ length w.content = sym (ap (λ (x : Says). x.lc) same) ∙ ap length f.holds in
    let low : lc_least w.shape ≤ i.says.lc = rw lc (low_of frame w built) in
    let row : RowIn entry w.shape (length w.content) = rw (← lc) (row_of entry frame w.content i.says i.table w.shape (sym i.shape) low) in
    record { built = built; carried = carried_by_lem entry w.shape (length w.content) w.le row built.carried }

pub two_five : {A : Type 0} → ◌≡◌ {A = Outcome ℕ} (R 2) (R 5) → A
two_five e = let z : ◌≡◌ {A = ℕ} 2 5 = cc in absurd (omega arith)

module _ (entry : Entry) (w : Parts) (old : List ℕ) where
  pub write_r5 : ((writing_by entry w old).0 ≡ R 5) ↔ (CarryOf entry w.shape (length w.content) w.le → ⊥)
  write_r5 = (λ e. go (writing_by entry w old) (write_way entry w old) e, λ n. back (writing_by entry w old) (write_way entry w old) n)
    where
      go : (o : Outcome ℕ × List ℕ) → WriteWay entry w old o → o.0 ≡ R 5 → CarryOf entry w.shape (length w.content) w.le → ⊥
      go _ (unfit c) e k = true≢false (sym (carries_by entry _ _ _ k) ∙ c)
      go _ (no_room c h) e k = two_five e
      go _ (written c h) e k = r_gives _ _ (sym e)

      back : (o : Outcome ℕ × List ℕ) → WriteWay entry w old o → (CarryOf entry w.shape (length w.content) w.le → ⊥) → o.0 ≡ R 5
      back _ (unfit c) n = refl
      back _ (no_room c h) n = absurd (n (carries_of entry _ _ _ c))
      back _ (written c h) n = absurd (n (carries_of entry _ _ _ c))

  pub write_r2 : ((writing_by entry w old).0 ≡ R 2) ↔ ((frame : List ℕ) × IsFrameOf (TableOf entry) w frame × (length old < length frame))
  write_r2 = (λ e. go (writing_by entry w old) (write_way entry w old) e, λ t. back (writing_by entry w old) (write_way entry w old) t.0 t.1 t.2)
    where
      go : (o : Outcome ℕ × List ℕ) → WriteWay entry w old o → o.0 ≡ R 2 → (frame : List ℕ) × IsFrameOf (TableOf entry) w frame × (length old < length frame)
      go _ (unfit c) e = two_five (sym e)
      go _ (no_room c h) e = (frame_of w, frame_of_lem entry w c, h)
      go _ (written c h) e = absurd (r_gives _ _ (sym e))

      back : (o : Outcome ℕ × List ℕ) → WriteWay entry w old o → (frame : List ℕ) → IsFrameOf (TableOf entry) w frame → length old < length frame → o.0 ≡ R 2
      back _ (unfit c) frame i h = absurd (true≢false (sym (is_built entry w frame i).carried ∙ c))
      back _ (no_room c g) frame i h = refl
      back _ (written c g) frame i h = absurd (omega (arith, ap length (is_built entry w frame i).built.layout))

  pub write_writes : (frame : List ℕ) → IsFrameOf (TableOf entry) w frame → length frame ≤ length old → writing_by entry w old ≡ (Gives (length frame), frame ++ drop (length frame) old)
  write_writes frame i room = go (writing_by entry w old) (write_way entry w old)
    where
      can_be : Writable entry w frame
      can_be = is_built entry w frame i

      go : (o : Outcome ℕ × List ℕ) → WriteWay entry w old o → o ≡ (Gives (length frame), frame ++ drop (length frame) old)
      go _ (unfit c) = absurd (true≢false (sym can_be.carried ∙ c))
      go _ (no_room c g) = absurd (omega (arith, ap length can_be.built.layout))
      go _ (written c g) = ap (λ (f : List ℕ). (Gives (length f), f ++ drop (length f) old)) (sym can_be.built.layout)

  pub write_refused : (n : ℕ) → (writing_by entry w old).0 ≡ R n → (writing_by entry w old).1 ≡ old
  write_refused n = go (writing_by entry w old) (write_way entry w old)
    where
      go : (o : Outcome ℕ × List ℕ) → WriteWay entry w old o → o.0 ≡ R n → o.1 ≡ old
      go _ (unfit c) e = refl
      go _ (no_room c h) e = refl
      go _ (written c h) e = absurd (r_gives _ _ (sym e))

pub write_exactly : (entry : Entry) → Claims.WriteExactly (CarryOf entry) (TableOf entry) (writing_by entry)
write_exactly entry = record { r5 = write_r5 entry; r2 = write_r2 entry; writes = write_writes entry; refused = write_refused entry }

-- the strict writer beside the other: but for shape 7 without data, what a shape can carry is in a row of the strict table
module _ (s : Case) (n le : ℕ) (some_data : shape_no s ≡ 7 → 1 ≤ n) where
  pub row_carried : can_carry s n le ≡ true → RowIn Strict s n
  row_carried c = record { least = least s some_data (carried s n le c).lc_low }
    where
      least : (s : Case) → (shape_no s ≡ 7 → 1 ≤ n) → lc_least s ≤ n → least_of Strict s ≤ n
      least Instruction y low = low
      least Le1 y low = low
      least Lc1Data y low = low
      least Lc1DataLe1 y low = low
      least Lc3Data y low = low
      least Lc3DataLe2 y low = y refl
      least Le3 y low = low

  pub same_carried : carried_by Ordinary s n le ≡ carried_by Strict s n le
  unfolding carried_by
  same_carried = carried_ordinary s n le ∙ go (can_carry s n le) refl
    where
      go : (b : Bool) → can_carry s n le ≡ b → can_carry s n le ≡ carried_by Strict s n le
      go true c = c ∙ sym (carried_by_lem Strict s n le (row_carried c) c)
      go false c = rw (c, and-false)

-- ---- there and back, by either table
module _ (entry : Entry) where
  pub is_frame : (frame content : List ℕ) (a : Apdu) → TableOf entry frame (says_of a) content → IsFrameOf (TableOf entry) (parts_of a.header a.shape content a.le) frame
  is_frame frame content a i = record { says = says_of a; table = i; header = refl; shape = refl; le = refl }

  pub read_then_written : Claims.ReadThenWritten (read_by entry) data_of (writing_by entry)
  read_then_written frame old a bytes e room =
      let t = (read_exactly entry frame bytes (says_of a)).0 e in
      let cut : data_of frame (says_of a) ≡ t.0 = of_table frame t.0 (says_of a) (table_of entry frame t.0 (says_of a) t.1) in
      rw cut (write_writes entry (parts_of a.header a.shape t.0 a.le) old frame (is_frame frame t.0 a t.1) room)

  -- what is written: the frame, which is read as it was meant
  pub record Wrote (w : Parts) (old after : List ℕ) (n : ℕ) : Type 0 where
    pub front : take n after ≡ frame_of w
    pub room : n ≤ length old
    pub long : length (frame_of w) ≡ n
    pub fits : can_carry w.shape (length w.content) w.le ≡ true
    pub reads : read_by entry (frame_of w) ≡ Gives (said w)
    pub cuts : data_of (frame_of w) (said w) ≡ w.content

  pub wrote : (w : Parts) (old : List ℕ) (n : ℕ) → (writing_by entry w old).0 ≡ Gives n → Wrote w old (writing_by entry w old).1 n
  wrote w old n e = go (writing_by entry w old) (write_way entry w old) e
    where
      go : (o : Outcome ℕ × List ℕ) → WriteWay entry w old o → o.0 ≡ Gives n → Wrote w old o.1 n
      go _ (unfit c) e = absurd (r_gives _ _ e)
      go _ (no_room c h) e = absurd (r_gives _ _ e)
      go _ (written c h) e =
          let row = carried_of entry w.shape (length w.content) w.le c in
          let t : Built (frame_of w) w = record { layout = refl; carried = row.1 } in
          let long = gives_same _ _ e in
          record {
            front = take_at (frame_of w) (drop (length (frame_of w)) old) n long;
            room = omega arith;
            long = long;
            fits = row.1;
            reads = table_read entry (frame_of w) w t row.0;
            cuts = table_cut (frame_of w) w t;
          }

  pub written_then_read : Claims.WrittenThenRead (read_by entry) data_of (writing_by entry)
  written_then_read w old n e = let t = wrote w old n e in (ap (read_by entry) t.front ∙ t.reads, ap (λ (f : List ℕ). data_of f (said w)) t.front ∙ t.cuts)

  pub accepts_what_is_read : Claims.AcceptsWhatIsRead (read_by entry) data_of (writing_by entry)
  accepts_what_is_read w old n parts = (
    λ e. let t = wrote w old n e in (frame_of w, frame_bytes w parts t.fits, t.long, t.room, t.reads, t.cuts),
    λ t. accepted t.0 t.1 t.2 t.3 t.4 t.5,
  )
    where
      a : Apdu
      a = apdu_of w.header w.shape (length w.content) w.le

      accepted : (frame : List ℕ) → AreBytes frame → length frame ≡ n → n ≤ length old → read_by entry frame ≡ Gives (said w) → data_of frame (said w) ≡ w.content → (writing_by entry w old).0 ≡ Gives n
      accepted frame bytes long room e cut =
          ap (λ (d : List ℕ). (writing_by entry (parts_of w.header w.shape d w.le) old).0) (sym cut)
          ∙ ap (λ (o : Outcome ℕ × List ℕ). o.0) (read_then_written frame old a bytes e (omega arith)) ∙ ap Gives long
