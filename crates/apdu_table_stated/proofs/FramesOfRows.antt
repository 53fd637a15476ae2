-- A frame of a row, built from its fields (specs/Terms.antt), and the row's tests (specs/Trying.antt): each from the other. Over any row.
use Prim.Native.Nat.{ℕ, ◌+◌, ◌*◌, ◌<◌, ◌≤◌}
use mathlib.Core.Path.{◌≡◌, refl, ap, ap₂, sym, subst, ◌∙◌}
use mathlib.Core.Bool.{true}
use mathlib.Core.List.{List, [], ◌∷◌, ◌++◌, append_assoc, append-nil}
use native.Mathlib.Omega.{arith}
use native.Mathlib.Numerals.{add-one}
use native.Mathlib.Decide.{ℕ_discrete, dec_lt}
use borrow.Author.Tests.{ne_eqb}
use lib.ListN.{length, take, drop, length-append, length-drop, take-append-drop}
use lib.Seq.{length-take-le, take-length, take-add, drop-cons, get_or-append-add}
use Rattle.octets.specs.Bytes.{AreBytes, byte, pair_at}
use Rattle.apdu_stated.specs.Table.{le_most, le_read}
use Rattle.apdu_stated.specs.Reading.{header_of}
use Rattle.apdu_stated.specs.Terms.{IsPair, OneByteLe, full, plain, TwoByteLe, whole, pair, frame_with, saying}
use Rattle.apdu_table_stated.specs.Words.{ApduHeader, Says, Row}
use Rattle.apdu_table_stated.specs.Trying.{begins, lc_in, le_in, data_end, row_end, fits, ends_early, claimed}
use Rattle.apdu_table_stated.specs.Answers.{says_by}
use Rattle.apdu_table_stated.specs.Terms.{LcField, no_lc, one_lc, three_lc, LeField, no_le, one_le, two_le, three_le, OfRow, IsOf, EndsIn, in_one, in_one_data, in_three, in_three_data, EarlyIn}
use Rattle.apdu_table_stated.proofs.Columns

-- ---- from the fields to the tests

-- an Lc field behind the header, and whatever comes behind it
module _ (h : ApduHeader) (tail : List ℕ) where
  lc_says : {n lc : ℕ} {bytes : List ℕ} → LcField n lc bytes → lc_in n (frame_with h (bytes ++ tail)) ≡ lc
  lc_says no_lc = sym (Columns.lc_none (frame_with h tail))
  lc_says (one_lc {lc} m) = sym (Columns.lc_one (frame_with h (lc ∷ tail)) (omega arith))
  lc_says (three_lc {hi} {lo} p) = sym (Columns.lc_three (frame_with h (0 ∷ hi ∷ lo ∷ tail)) (omega arith)) ∙ sym p.is

  lc_begins : {n lc : ℕ} {bytes : List ℕ} → LcField n lc bytes → begins n 4 (frame_with h (bytes ++ tail)) ≡ true
  lc_begins no_lc = Columns.begins_other 0 4 (frame_with h tail) (omega arith)
  lc_begins (one_lc {lc} m) = Columns.begins_other 1 4 (frame_with h (lc ∷ tail)) (omega arith)
  lc_begins (three_lc {hi} {lo} p) = Columns.begins_zero 3 4 (frame_with h (0 ∷ hi ∷ lo ∷ tail)) refl

lc_long_lem : {n lc : ℕ} {bytes : List ℕ} → LcField n lc bytes → length bytes ≡ n
lc_long_lem no_lc = refl
lc_long_lem (one_lc m) = refl
lc_long_lem (three_lc p) = refl

lc_row : {n lc : ℕ} {bytes : List ℕ} → LcField n lc bytes → Columns.IsLc n
lc_row no_lc = Columns.lc_0
lc_row (one_lc m) = Columns.lc_1
lc_row (three_lc p) = Columns.lc_3

le_long_lem : {n le : ℕ} {bytes : List ℕ} → LeField n le bytes → length bytes ≡ n
le_long_lem no_le = refl
le_long_lem (one_le o) = refl
le_long_lem (two_le o) = refl
le_long_lem (three_le o) = refl

le_row : {n le : ℕ} {bytes : List ℕ} → LeField n le bytes → Columns.IsLe n
le_row no_le = Columns.le_0
le_row (one_le o) = Columns.le_1
le_row (two_le o) = Columns.le_2
le_row (three_le o) = Columns.le_3

one_read : {b le : ℕ} → OneByteLe b le → le_read 1 b ≡ le
one_read full = refl
one_read (plain {b} low high) = rw (ne_eqb b 0 (omega arith))

two_read : (n : ℕ) {a b le : ℕ} → le_most n ≡ 65536 → TwoByteLe a b le → le_read n (a * 256 + b) ≡ le
two_read n e whole = e
two_read n {a} {b} e (pair p low) = rw (ne_eqb (a * 256 + b) 0 (omega arith)) (sym p.is)

-- an Le field at its place
module _ (front rest : List ℕ) (place : ℕ) (is : length front ≡ place) where
  nth : (i : ℕ) (s : List ℕ) → byte (front ++ s) (place + i) ≡ byte s i
  nth i s = rw (← is) (get_or-append-add front s i 0)

  at : (s : List ℕ) → byte (front ++ s) place ≡ byte s 0
  at s = ap (byte (front ++ s)) (omega arith) ∙ nth 0 s

  le_begins : {n le : ℕ} {bytes : List ℕ} → LeField n le bytes → begins n place (front ++ (bytes ++ rest)) ≡ true
  le_begins no_le = Columns.begins_other 0 place (front ++ rest) (omega arith)
  le_begins (one_le {b} o) = Columns.begins_other 1 place (front ++ (b ∷ rest)) (omega arith)
  le_begins (two_le {a} {b} o) = Columns.begins_other 2 place (front ++ (a ∷ b ∷ rest)) (omega arith)
  le_begins (three_le {a} {b} o) = Columns.begins_zero 3 place (front ++ (0 ∷ a ∷ b ∷ rest)) (at (0 ∷ a ∷ b ∷ rest))

  le_says : {n le : ℕ} {bytes : List ℕ} → LeField n le bytes → le_in n place (front ++ (bytes ++ rest)) ≡ le
  le_says no_le = sym (Columns.le_none (front ++ rest) place)
  le_says (one_le {b} o) = sym (Columns.le_one (front ++ (b ∷ rest)) place) ∙ ap (le_read 1) (at (b ∷ rest)) ∙ one_read o
  le_says (two_le {a} {b} o) =
      sym (Columns.le_two (front ++ (a ∷ b ∷ rest)) place) ∙ ap (le_read 2) (ap₂ (λ (x y : ℕ). x * 256 + y) (at (a ∷ b ∷ rest)) (nth 1 (a ∷ b ∷ rest))) ∙ two_read 2 refl o
  le_says (three_le {a} {b} o) =
      let next : place + 1 + 1 ≡ place + 2 = omega arith in
      sym (Columns.le_three (front ++ (0 ∷ a ∷ b ∷ rest)) place)
      ∙ ap (le_read 3) (ap₂ (λ (x y : ℕ). x * 256 + y) (nth 1 (0 ∷ a ∷ b ∷ rest)) (ap (byte (front ++ (0 ∷ a ∷ b ∷ rest))) next ∙ nth 2 (0 ∷ a ∷ b ∷ rest)))
      ∙ two_read 3 refl o

-- a frame of a row, with whatever comes behind it
pub record Standing (r : Row) (front rest : List ℕ) (says : Says) : Type 0 where
  pub stands : Columns.Stands r (front ++ rest)
  pub end : row_end r (front ++ rest) ≡ length front
  pub said : says_by r (front ++ rest) ≡ says

module _ (r : Row) (h : ApduHeader) (lcb leb content rest : List ℕ) (le : ℕ) (lc_field : LcField r.lc_field (length content) lcb) (least : r.lc_least ≤ length content)
    (le_field : LeField r.le_field le leb) where
  -- the same bytes, by where the Le field stands
  front : List ℕ
  front = frame_with h (lcb ++ content)

  by_lc : List ℕ
  by_lc = frame_with h (lcb ++ (content ++ (leb ++ rest)))

  from_lc : frame_with h (lcb ++ (content ++ leb)) ++ rest ≡ by_lc
  unfolding by_lc
  from_lc = ap (frame_with h) (append_assoc lcb (content ++ leb) rest ∙ ap (λ (s : List ℕ). lcb ++ s) (append_assoc content leb rest))

  from_le : front ++ (leb ++ rest) ≡ by_lc
  unfolding front by_lc
  from_le = ap (frame_with h) (append_assoc lcb content (leb ++ rest))

  lc_is : lc_in r.lc_field by_lc ≡ length content
  unfolding by_lc
  lc_is = lc_says h (content ++ (leb ++ rest)) lc_field

  front_long : length front ≡ 4 + r.lc_field + length content
  unfolding front
  front_long = let a = length-append lcb content in let b = lc_long_lem lc_field in omega arith

  whole_long : length by_lc ≡ 4 + r.lc_field + length content + r.le_field + length rest
  unfolding by_lc
  whole_long =
      let a = length-append lcb (content ++ (leb ++ rest)) in
      let b = length-append content (leb ++ rest) in
      let c = length-append leb rest in
      let d = lc_long_lem lc_field in
      let e = le_long_lem le_field in
      omega arith

  data_end_lem : data_end r by_lc ≡ length front
  data_end_lem = let a = lc_is in let b = front_long in omega arith

  begin_lc : begins r.lc_field 4 by_lc ≡ true
  unfolding by_lc
  begin_lc = lc_begins h (content ++ (leb ++ rest)) lc_field

  stands_lc : Columns.Stands r by_lc
  stands_lc =
      record {
        is_row = Columns.of_fields r (lc_row lc_field) (le_row le_field);
        begin = begin_lc;
        least = let a = lc_is in omega arith;
        within = let a = lc_is in let b = whole_long in omega arith;
        le_begin = rw (data_end_lem, ← from_le) (le_begins front rest (length front) refl le_field);
      }

  le_is : le_in r.le_field (data_end r by_lc) by_lc ≡ le
  le_is = rw (data_end_lem, ← from_le) (le_says front rest (length front) refl le_field)

  header_is : header_of by_lc ≡ h
  unfolding by_lc
  header_is = refl

  short_long : length (frame_with h (lcb ++ (content ++ leb))) ≡ 4 + r.lc_field + length content + r.le_field
  short_long =
      let a = length-append lcb (content ++ leb) in
      let b = length-append content leb in
      let d = lc_long_lem lc_field in
      let e = le_long_lem le_field in
      omega arith

  built_stands : Standing r (frame_with h (lcb ++ (content ++ leb))) rest (saying h r.number (4 + r.lc_field) (length content) le)
  built_stands =
      record {
        stands = subst (Columns.Stands r) (sym from_lc) stands_lc;
        end = ap (row_end r) from_lc ∙ (let a = lc_is in let b = short_long in omega arith);
        said = ap (says_by r) from_lc ∙ rw (header_is, le_is, lc_is);
      }

pub standing : (r : Row) (frame rest content : List ℕ) (says : Says) → OfRow r frame says content → Standing r frame rest says
standing r frame rest content says o =
    rw (o.frame_is, o.says_is) (built_stands r o.header o.lc_bytes o.le_bytes content rest o.le o.lc_field o.least o.le_field)

-- ---- from the tests to the fields

-- one, two and three bytes of a frame, from a place on
module _ (frame : List ℕ) where
  next : (i : ℕ) → i < length frame → drop i frame ≡ byte frame i ∷ drop (i + 1) frame
  next i h = drop-cons frame i 0 h ∙ ap (λ (n : ℕ). byte frame i ∷ drop n frame) (sym (add-one i))

  one_byte : (i : ℕ) → i < length frame → take 1 (drop i frame) ≡ byte frame i ∷ []
  one_byte i h = ap (take 1) (next i h)

  two_bytes : (i : ℕ) → i + 1 < length frame → take 2 (drop i frame) ≡ byte frame i ∷ byte frame (i + 1) ∷ []
  two_bytes i h = ap (take 2) (next i (omega arith)) ∙ ap (λ (s : List ℕ). byte frame i ∷ s) (one_byte (i + 1) h)

  three_bytes : (i : ℕ) → i + 2 < length frame → take 3 (drop i frame) ≡ byte frame i ∷ byte frame (i + 1) ∷ byte frame (i + 1 + 1) ∷ []
  three_bytes i h = ap (take 3) (next i (omega arith)) ∙ ap (λ (s : List ℕ). byte frame i ∷ s) (two_bytes (i + 1) (omega arith))

first_four : (frame : List ℕ) → 4 ≤ length frame → (s : List ℕ) → take 4 frame ++ s ≡ frame_with (header_of frame) s
first_four [] h s = absurd (omega arith)
first_four (a ∷ []) h s = absurd (omega arith)
first_four (a ∷ b ∷ []) h s = absurd (omega arith)
first_four (a ∷ b ∷ c ∷ []) h s = absurd (omega arith)
first_four (a ∷ b ∷ c ∷ d ∷ more) h s = refl

module _ (frame : List ℕ) (bytes : AreBytes frame) where
  is_pair : (i : ℕ) → IsPair (byte frame i) (byte frame (i + 1)) (pair_at frame i)
  is_pair i = let a = bytes i in let b = bytes (i + 1) in record { high = omega arith; low = omega arith; is = refl }

  one_of : (i : ℕ) → OneByteLe (byte frame i) (le_read 1 (byte frame i))
  one_of i = go (ℕ_discrete (byte frame i) 0)
    where
      go : Dec (byte frame i ≡ 0) → OneByteLe (byte frame i) (le_read 1 (byte frame i))
      go (yes e) = rw e full
      go (no n) = let b = bytes i in rw (ne_eqb (byte frame i) 0 n) (plain {b = byte frame i} (omega arith) (omega arith))

  two_of : (n i : ℕ) → le_most n ≡ 65536 → TwoByteLe (byte frame i) (byte frame (i + 1)) (le_read n (pair_at frame i))
  two_of n i most = go (ℕ_discrete (pair_at frame i) 0)
    where
      go : Dec (pair_at frame i ≡ 0) → TwoByteLe (byte frame i) (byte frame (i + 1)) (le_read n (pair_at frame i))
      go (yes e) =
          let a : byte frame i ≡ 0 = omega arith in
          let b : byte frame (i + 1) ≡ 0 = omega arith in
          rw (a, b, most) whole
      go (no m) = rw (ne_eqb (pair_at frame i) 0 m) (pair (is_pair i) (omega arith))

  lc_of : (n : ℕ) → Columns.IsLc n → begins n 4 frame ≡ true → 4 + n ≤ length frame → LcField n (lc_in n frame) (take n (drop 4 frame))
  lc_of _ Columns.lc_0 b h = rw (← Columns.lc_none frame) no_lc
  lc_of _ Columns.lc_1 b h = let m = bytes 4 in rw (← Columns.lc_one frame h, one_byte frame 4 (omega arith)) (one_lc {lc = byte frame 4} (omega arith))
  lc_of _ Columns.lc_3 b h =
      let z = Columns.begins_known 3 4 frame b refl (omega arith) in
      rw (← Columns.lc_three frame h, three_bytes frame 4 (omega arith), z) (three_lc (is_pair 5))

  le_of : (n place : ℕ) → Columns.IsLe n → begins n place frame ≡ true → place + n ≤ length frame → LeField n (le_in n place frame) (take n (drop place frame))
  le_of _ place Columns.le_0 b h = rw (← Columns.le_none frame place) no_le
  le_of _ place Columns.le_1 b h = rw (← Columns.le_one frame place, one_byte frame place (omega arith)) (one_le (one_of place))
  le_of _ place Columns.le_2 b h = rw (← Columns.le_two frame place, two_bytes frame place (omega arith)) (two_le (two_of 2 place refl))
  le_of _ place Columns.le_3 b h =
      let z = Columns.begins_known 3 place frame b refl (omega arith) in
      rw (← Columns.le_three frame place, three_bytes frame place (omega arith), z) (three_le (two_of 3 (place + 1) refl))

  -- a row that stands at the frame's front: the front is of the row
  pub front_of : (r : Row) → Columns.Stands r frame → (content : List ℕ) × OfRow r (take (row_end r frame) frame) (says_by r frame) content
  front_of r t = (content, of)
    where
      content : List ℕ
      content = take (lc_in r.lc_field frame) (drop (4 + r.lc_field) frame)

      long : length content ≡ lc_in r.lc_field frame
      long = length-take-le (lc_in r.lc_field frame) (drop (4 + r.lc_field) frame) (let d = length-drop (4 + r.lc_field) frame in omega (arith, t.within))

      n : ℕ
      n = r.lc_field

      m : ℕ
      m = lc_in n frame

      k : ℕ
      k = r.le_field

      cut : take (4 + n + m + k) frame ≡ frame_with (header_of frame) (take n (drop 4 frame) ++ (take m (drop (4 + n) frame) ++ take k (drop (4 + n + m) frame)))
      cut =
          take-add (4 + n + m) k frame
          ∙ ap (λ (s : List ℕ). s ++ take k (drop (4 + n + m) frame)) (take-add (4 + n) m frame ∙ ap (λ (s : List ℕ). s ++ take m (drop (4 + n) frame)) (take-add 4 n frame))
          ∙ append_assoc (take 4 frame ++ take n (drop 4 frame)) (take m (drop (4 + n) frame)) (take k (drop (4 + n + m) frame))
          ∙ append_assoc (take 4 frame) (take n (drop 4 frame)) (take m (drop (4 + n) frame) ++ take k (drop (4 + n + m) frame))
          ∙ first_four frame (omega (arith, t.within)) _

      of : OfRow r (take (row_end r frame) frame) (says_by r frame) content
      of =
          record {
            header = header_of frame;
            lc_bytes = take r.lc_field (drop 4 frame);
            le_bytes = take r.le_field (drop (data_end r frame) frame);
            le = le_in r.le_field (data_end r frame) frame;
            lc_field = rw long (lc_of r.lc_field (Columns.row_lc r t.is_row) t.begin (omega (arith, t.within)));
            least = rw long t.least;
            le_field = le_of r.le_field (data_end r frame) (Columns.row_le r t.is_row) t.le_begin t.within;
            frame_is = cut;
            says_is = rw long refl;
          }

-- ---- a frame of a row is one that the row fits
pub fit_of : (r : Row) (frame : List ℕ) → IsOf r frame → fits r frame ≡ true
fit_of r frame (says, content, o) =
    let s = standing r frame [] content says o in
    subst (λ (f : List ℕ). fits r f ≡ true) (append-nil frame) (Columns.of_fits r (frame ++ []) s.stands (s.end ∙ sym (ap length (append-nil frame))))

pub said_of : (r : Row) (frame content : List ℕ) (says : Says) → OfRow r frame says content → says_by r frame ≡ says
said_of r frame content says o = ap (says_by r) (sym (append-nil frame)) ∙ (standing r frame [] content says o).said

pub of_fit : (r : Row) (frame : List ℕ) → AreBytes frame → fits r frame ≡ true → (content : List ℕ) × OfRow r frame (says_by r frame) content
of_fit r frame bytes e =
    let t = Columns.fits_of r frame e in
    let o = front_of frame bytes r t.0 in
    let all : take (row_end r frame) frame ≡ frame = ap (λ (n : ℕ). take n frame) t.1 ∙ take-length frame in
    (o.0, rw all at o.1)

-- a part from the frame's front that is of a row is what the row claims
pub claimed_of : (r : Row) (frame content : List ℕ) (says : Says) (j : ℕ) → j ≤ length frame → OfRow r (take j frame) says content → claimed r frame ≡ j
claimed_of r frame content says j h o =
    let s = standing r (take j frame) (drop j frame) content says o in
    let whole : take j frame ++ drop j frame ≡ frame = take-append-drop j frame in
    let t : Columns.Stands r frame = rw whole at s.stands in
    let e : row_end r frame ≡ length (take j frame) = rw whole at s.end in
    Columns.claimed_stands r frame (Columns.of_stands r frame t) ∙ e ∙ length-take-le j frame h

-- no part of a row is under four bytes
pub front_four : (r : Row) (frame content : List ℕ) (says : Says) → OfRow r frame says content → 4 ≤ length frame
front_four r frame content says o = rw o.frame_is (omega arith)

-- ---- a frame that ends early in a row
module _ (r : Row) (frame : List ℕ) (long : 4 ≤ length frame) where
  pub early_in : ends_early r frame ≡ true → EarlyIn r frame
  early_in e =
      let t = Columns.early_of r frame e in
      record { le_field = Columns.le_most_lem (Columns.row_le r t.0.is_row); ends = go r.lc_field (Columns.row_lc r t.0.is_row) t.0.begin t.1 }
    where
      one : Dec (length frame < 5) → length frame < 5 + lc_in 1 frame → EndsIn frame 1
      one (yes h) l = in_one h
      one (no h) l = in_one_data (omega arith) (let e = Columns.lc_one frame (omega arith) in omega arith)

      three : Dec (length frame < 7) → begins 3 4 frame ≡ true → length frame < 7 + lc_in 3 frame → EndsIn frame 3
      three (yes h) b l = in_three h (λ more. Columns.begins_known 3 4 frame b refl more)
      three (no h) b l = in_three_data (omega arith) (Columns.begins_known 3 4 frame b refl (omega arith)) (let e = Columns.lc_three frame (omega arith) in omega arith)

      go : (n : ℕ) → Columns.IsLc n → begins n 4 frame ≡ true → length frame < 4 + n + lc_in n frame → EndsIn frame n
      go _ Columns.lc_0 b l = absurd (omega (arith, Columns.lc_none frame))
      go _ Columns.lc_1 b l = one (dec_lt (length frame) 5) l
      go _ Columns.lc_3 b l = three (dec_lt (length frame) 7) b l

  pub in_early : EarlyIn r frame → ends_early r frame ≡ true
  in_early x =
      let t = go r.lc_field x.ends in
      Columns.of_early r frame (record { is_row = Columns.of_fields r t.0 (Columns.le_known r.le_field x.le_field); begin = t.1 }) t.2
    where
      go : (n : ℕ) → EndsIn frame n → Columns.IsLc n × (begins n 4 frame ≡ true) × (length frame < 4 + n + lc_in n frame)
      go _ (in_one h) = (Columns.lc_1, Columns.begins_other 1 4 frame (omega arith), omega arith)
      go _ (in_one_data h l) = let e = Columns.lc_one frame h in (Columns.lc_1, Columns.begins_other 1 4 frame (omega arith), omega arith)
      go _ (in_three h z) = (Columns.lc_3, begin (dec_lt 4 (length frame)), omega arith)
        where
          begin : Dec (4 < length frame) → begins 3 4 frame ≡ true
          begin (yes m) = Columns.begins_zero 3 4 frame (z m)
          begin (no m) = Columns.begins_past 3 4 frame (omega arith)
      go _ (in_three_data h z l) = let e = Columns.lc_three frame h in (Columns.lc_3, Columns.begins_zero 3 4 frame z, omega arith)
