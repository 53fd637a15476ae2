-- Frames and the table: what the theorems are put together from.
use Prim.Native.Nat.{ℕ, zero, suc, ◌+◌, ◌-◌, ◌/◌, ◌%◌, ◌<◌, ◌≤◌}
use mathlib.Core.Path.{◌≡◌, refl, ap, ap₂, sym, subst, ◌∙◌}
use mathlib.Core.Bool.{true}
use mathlib.Core.List.{List, [], ◌∷◌, ◌++◌}
use native.Mathlib.Omega.{arith}
use native.Mathlib.Nat.{not-suc-le-zero, le_of_suc-le-suc}
use lib.ListN.{length, take, drop, length-drop}
use lib.Seq.{drop-drop, drop_at, take_at, get_or-drop}
use Rattle.outcome.specs.Outcome.{StatusWord, Outcome, R, Word, Gives}
use Rattle.outcome.proofs.Laws.{gives_same, word_same, word_gives, r_word, r_gives}
use Rattle.octets.specs.Bytes.{byte, pair_at, bytes2, AreBytes}
use Rattle.octets.proofs.Laws.{part_within, part_length}
use Rattle.apdu_stated.specs.Words.{Case, Instruction, Le1, Lc1Data, Lc1DataLe1, Lc3Data, Lc3DataLe2, Le3}
use Rattle.apdu_stated.specs.Answers.{Says, says_of}
use Rattle.apdu_stated.specs.Table.{lc_field, le_field, can_carry, lc_bytes, le_bytes}
use Rattle.apdu_stated.specs.Reading.{Entry, Ordinary, read_by, read_of, lengths_of, header_of, say_of, data_of}
use Rattle.apdu_stated.specs.Writing.{Parts, parts_of, header_bytes, payload_of, frame_of}
use Rattle.apdu_stated.specs.declared.Lengths.{Lengths}
use Rattle.apdu_stated.specs.declared.Lengths.TheVariants.{Found}
use Rattle.apdu_stated.proofs.Cases
use Rattle.apdu_stated.proofs.Fields.{lc_long_lem, frame_long}
use Rattle.apdu_stated.specs.Terms.{AreParts}
use Rattle.apdu_stated.proofs.LaidOut.{Carried, carried, row_read}
use Rattle.apdu_stated.proofs.Ways.{Way, way, none, le1, short, short_le, le3, wide, wide_le2, missing, short_surplus, le1_surplus, wide_surplus, zero_surplus, said_by, FrameWay, frame_way}
use Rattle.apdu_stated.proofs.Ways.{under, found, ends, goes_on}
use Rattle.apdu_stated.proofs.Rows.{RowIn}
use Rattle.apdu_stated.proofs.Sound.{Laid, LaidAs, sound}

-- a frame that is laid out as the definitions' table lays these parts out, and the table's row can carry them
pub record Built (frame : List ℕ) (w : Parts) : Type 0 where
  pub layout : frame ≡ frame_of w
  pub carried : can_carry w.shape (length w.content) w.le ≡ true

-- what a frame of these parts says: Lc is the data's length
abbrev pub said : Parts → Says
said w = says_of (record { header = w.header; shape = w.shape; lc = length w.content; le = w.le })

-- ---- a frame is its header and its payload
four : (frame : List ℕ) → 4 ≤ length frame → frame ≡ header_bytes (header_of frame) ++ drop 4 frame
four [] h = absurd (not-suc-le-zero h)
four (a ∷ []) h = absurd (not-suc-le-zero (le_of_suc-le-suc h))
four (a ∷ b ∷ []) h = absurd (not-suc-le-zero (le_of_suc-le-suc (le_of_suc-le-suc h)))
four (a ∷ b ∷ c ∷ []) h = absurd (not-suc-le-zero (le_of_suc-le-suc (le_of_suc-le-suc (le_of_suc-le-suc h))))
four (a ∷ b ∷ c ∷ d ∷ frame) h = refl

pub payload_bytes : (frame : List ℕ) → AreBytes frame → AreBytes (drop 4 frame)
payload_bytes frame bytes i = rw get_or-drop (bytes (4 + i))

-- a frame of parts that are bytes is made of bytes
bytes_on : (x : ℕ) (l : List ℕ) → x < 256 → AreBytes l → AreBytes (x ∷ l)
bytes_on x l h b zero = h
bytes_on x l h b (suc i) = b i

bytes_then : (a b : List ℕ) → AreBytes a → AreBytes b → AreBytes (a ++ b)
bytes_then [] b p q = q
bytes_then (x ∷ a) b p q = bytes_on x (a ++ b) (p 0) (bytes_then a b (λ i. p (suc i)) q)

bytes_none : AreBytes []
bytes_none i = omega arith

bytes_one : (x : ℕ) → x < 256 → AreBytes (x ∷ [])
bytes_one x h = bytes_on x [] h bytes_none

bytes_pair : (n : ℕ) → n ≤ 65535 → AreBytes (bytes2 n)
bytes_pair n h = bytes_on (n / 256) (n % 256 ∷ []) (omega arith) (bytes_one (n % 256) (omega arith))

bytes_three : (n : ℕ) → n ≤ 65535 → AreBytes (0 ∷ bytes2 n)
bytes_three n h = bytes_on 0 (bytes2 n) (omega arith) (bytes_pair n h)

lc_bytes_lem : (s : Case) (n le : ℕ) → Carried s n le → AreBytes (lc_bytes (lc_field s) n)
lc_bytes_lem Instruction n le k = bytes_none
lc_bytes_lem Le1 n le k = bytes_none
lc_bytes_lem Lc1Data n le k = bytes_one n (omega (arith, k.lc_high))
lc_bytes_lem Lc1DataLe1 n le k = bytes_one n (omega (arith, k.lc_high))
lc_bytes_lem Lc3Data n le k = bytes_three n k.lc_high
lc_bytes_lem Lc3DataLe2 n le k = bytes_three n k.lc_high
lc_bytes_lem Le3 n le k = bytes_none

le_bytes_lem : (s : Case) (le : ℕ) → AreBytes (le_bytes (le_field s) le)
le_bytes_lem Instruction le = bytes_none
le_bytes_lem Le1 le = bytes_one (le % 256) (omega arith)
le_bytes_lem Lc1Data le = bytes_none
le_bytes_lem Lc1DataLe1 le = bytes_one (le % 256) (omega arith)
le_bytes_lem Lc3Data le = bytes_none
le_bytes_lem Lc3DataLe2 le = bytes_pair (le % 65536) (omega arith)
le_bytes_lem Le3 le = bytes_three (le % 65536) (omega arith)

pub frame_bytes : (w : Parts) → AreParts w → can_carry w.shape (length w.content) w.le ≡ true → AreBytes (frame_of w)
unfolding frame_of payload_of
frame_bytes w b c =
    let h = w.header in
    let n = length w.content in
    let lc = lc_bytes (lc_field w.shape) n in
    let le = le_bytes (le_field w.shape) w.le in
    let p = lc ++ (w.content ++ le) in
    let payload : AreBytes p = bytes_then lc (w.content ++ le) (lc_bytes_lem w.shape n w.le (carried w.shape n w.le c)) (bytes_then w.content le b.content (le_bytes_lem w.shape w.le)) in
    bytes_on h.cla (h.ins ∷ h.p1 ∷ h.p2 ∷ p) b.cla (bytes_on h.ins (h.p1 ∷ h.p2 ∷ p) b.ins (bytes_on h.p1 (h.p2 ∷ p) b.p1 (bytes_on h.p2 p b.p2 payload)))

-- ---- read, so in the table
pub in_table : (entry : Entry) (frame : List ℕ) → AreBytes (drop 4 frame) → 4 ≤ length frame → (s : Case) (lc le : ℕ) → Found s lc le ≡ lengths_of entry (drop 4 frame)
    → (w : Parts) × Built frame w × (said_by frame s lc le ≡ said w)
unfolding frame_of Laid
in_table entry frame bytes long s lc le e =
    let laid : LaidAs (drop 4 frame) s lc le = sound (drop 4 frame) bytes (subst (Way entry (drop 4 frame)) (sym e) (way entry (drop 4 frame))) in (
      parts_of (header_of frame) s laid.content le,
      record { layout = four frame long ∙ ap (λ (p : List ℕ). header_bytes (header_of frame) ++ p) laid.is; carried = rw laid.long laid.carried },
      ap (λ (n : ℕ). said_by frame s n le) (sym laid.long),
    )

-- ---- in the table, so read, and cut as the table says
pub table_read : (entry : Entry) (frame : List ℕ) (w : Parts) → Built frame w → RowIn entry w.shape (length w.content) → read_by entry frame ≡ Gives (said w)
unfolding frame_of
table_read entry frame w t takes =
    let row = row_read entry w.shape w.content w.le takes (carried w.shape (length w.content) w.le t.carried) in
    ap (read_by entry) t.layout ∙ Cases.read_by_lem entry (frame_of w) (omega (arith, frame_long w.header w.shape w.content w.le))
    ∙ ap (say_of (frame_of w)) (sym row) ∙ Cases.say_found (frame_of w) w.shape (length w.content) w.le

pub table_cut : (frame : List ℕ) (w : Parts) → Built frame w → data_of frame (said w) ≡ w.content
unfolding data_of frame_of payload_of
table_cut frame w t =
    let n = length w.content in
    let a = lc_field w.shape in
    let rest = w.content ++ le_bytes (le_field w.shape) w.le in
    let long = frame_long w.header w.shape w.content w.le in
    let whole : length frame ≡ length (frame_of w) = ap length t.layout in
    let width : 4 + a + n - (4 + a) ≡ n = omega arith in
    let from : drop (4 + a) frame ≡ rest = ap (drop (4 + a)) t.layout ∙ sym (drop-drop a 4 (frame_of w)) ∙ drop_at (lc_bytes (lc_field w.shape) n) rest a (lc_long_lem w.shape n) in
    sym (part_within frame (4 + a) (4 + a + n) (omega arith) (omega arith))
    ∙ ap₂ (λ (k : ℕ) (l : List ℕ). take k l) width from ∙ take_at w.content (le_bytes (le_field w.shape) w.le) n refl

-- ---- for callers: the data of a frame that is read has Lc bytes
way_within : (p : List ℕ) {l : Lengths} → Way Ordinary p l → (s : Case) (lc le : ℕ) → Found s lc le ≡ l → lc_field s + lc ≤ length p
way_within p w s lc le e = go w s lc le e
  where
    found_same : (s t : Case) (a b c d : ℕ) → Found s a c ≡ Found t b d → (s ≡ t) × (a ≡ b)
    found_same s t a b c d e = (cc, cc)

    use_it : (s t : Case) (a b c d : ℕ) → Found s a c ≡ Found t b d → lc_field t + b ≤ length p → lc_field s + a ≤ length p
    use_it s t a b c d e h = let f = found_same s t a b c d e in rw (f.0, f.1) h

    go : {l : Lengths} → Way Ordinary p l → (s : Case) (lc le : ℕ) → Found s lc le ≡ l → lc_field s + lc ≤ length p
    go (none h) s lc le e = use_it s Instruction lc 0 le _ e (omega arith)
    go (le1 h) s lc le e = use_it s Le1 lc 0 le _ e (omega arith)
    go (short z h) s lc le e = use_it s Lc1Data lc (byte p 0) le _ e (omega arith)
    go (short_le z h) s lc le e = use_it s Lc1DataLe1 lc (byte p 0) le _ e (omega arith)
    go (le3 z h) s lc le e = use_it s Le3 lc 0 le _ e (omega arith)
    go (wide z n h) s lc le e = use_it s Lc3Data lc (pair_at p 1) le _ e (omega arith)
    go (wide_le2 d z h) s lc le e = use_it s Lc3DataLe2 lc (pair_at p 1) le _ e (omega arith)
    go (missing early) s lc le e = absurd (let z : ◌≡◌ {A = ℕ} 0 1 = cc in omega arith)
    go (short_surplus n h) s lc le e = absurd (let z : ◌≡◌ {A = ℕ} 0 1 = cc in omega arith)
    go (le1_surplus d z h) s lc le e = absurd (let z : ◌≡◌ {A = ℕ} 0 1 = cc in omega arith)
    go (wide_surplus d z h) s lc le e = absurd (let z : ◌≡◌ {A = ℕ} 0 1 = cc in omega arith)
    go (zero_surplus d z h) s lc le e = absurd (let z : ◌≡◌ {A = ℕ} 0 1 = cc in omega arith)

pub data_within : (frame : List ℕ) (said : Says) → read_of frame ≡ Gives said → said.data_at + said.lc ≤ length frame
data_within frame said e = go (read_of frame) (frame_way Ordinary frame) e
  where
    go : (o : Outcome Says) → FrameWay Ordinary frame o → o ≡ Gives said → said.data_at + said.lc ≤ length frame
    go _ (under h) x = absurd (word_gives _ _ x)
    go _ (ends h e) x = absurd (word_gives _ _ x)
    go _ (goes_on h k e) x = absurd (word_gives _ _ x)
    go _ (found long s lc le f) x =
        let fits = way_within (drop 4 frame) (way Ordinary (drop 4 frame)) s lc le f in
        rw (← gives_same _ _ x) (omega (arith, length-drop 4 frame))

pub data_long : (frame : List ℕ) (said : Says) → read_of frame ≡ Gives said → length (data_of frame said) ≡ said.lc
unfolding data_of
data_long frame said e =
    let fits = data_within frame said e in
    part_length frame said.data_at (said.data_at + said.lc) (omega arith) fits ∙ omega arith

pub data_from : (frame : List ℕ) (said : Says) → read_of frame ≡ Gives said → 4 ≤ said.data_at
data_from frame said e = go (read_of frame) (frame_way Ordinary frame) e
  where
    go : (o : Outcome Says) → FrameWay Ordinary frame o → o ≡ Gives said → 4 ≤ said.data_at
    go _ (under h) x = absurd (word_gives _ _ x)
    go _ (ends h e) x = absurd (word_gives _ _ x)
    go _ (goes_on h k e) x = absurd (word_gives _ _ x)
    go _ (found long s lc le f) x = rw (← gives_same _ _ x) (omega arith)

-- a reading refuses nothing, and has two statuses
pub read_status : (frame : List ℕ) (w : StatusWord) → (w.number ≡ 0x6a80 → ⊥) → (w.number ≡ 0x6700 → ⊥) → read_of frame ≡ Word w → ⊥
read_status frame w not_is_short not_None e = go (read_of frame) (frame_way Ordinary frame) e
  where
    number_is : (v : StatusWord) → ◌≡◌ {A = Outcome Says} (Word v) (Word w) → v.number ≡ w.number
    number_is v x = ap (λ (y : StatusWord). y.number) (word_same v w x)

    go : (o : Outcome Says) → FrameWay Ordinary frame o → o ≡ Word w → ⊥
    go _ (under h) x = not_is_short (sym (number_is _ x))
    go _ (ends h f) x = not_None (sym (number_is _ x))
    go _ (goes_on h k f) x = not_None (sym (number_is _ x))
    go _ (found long s lc le f) x = word_gives _ _ (sym x)

-- a frame by itself has no Lc against INS
pub never_third : (frame : List ℕ) (w : StatusWord) → read_of frame ≡ Word w → w.kind ≡ 3 → ⊥
never_third frame w e k = go (read_of frame) (frame_way Ordinary frame) e
  where
    kind_is : (v : StatusWord) → ◌≡◌ {A = Outcome Says} (Word v) (Word w) → v.kind ≡ w.kind
    kind_is v x = ap (λ (y : StatusWord). y.kind) (word_same v w x)

    go : (o : Outcome Says) → FrameWay Ordinary frame o → o ≡ Word w → ⊥
    go _ (under h) x = omega (arith, kind_is _ x)
    go _ (ends h f) x = omega (arith, kind_is _ x)
    go _ (goes_on h place f) x = omega (arith, kind_is _ x)
    go _ (found long s lc le f) x = word_gives _ _ (sym x)

pub read_refuses_not : (frame : List ℕ) (n : ℕ) → read_of frame ≡ R n → ⊥
read_refuses_not frame n e = go (read_of frame) (frame_way Ordinary frame) e
  where
    go : (o : Outcome Says) → FrameWay Ordinary frame o → o ≡ R n → ⊥
    go _ (under h) x = r_word _ _ (sym x)
    go _ (ends h f) x = r_word _ _ (sym x)
    go _ (goes_on h k f) x = r_word _ _ (sym x)
    go _ (found long s lc le f) x = r_gives _ _ (sym x)
