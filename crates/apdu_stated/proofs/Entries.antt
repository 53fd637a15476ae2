-- The table of the claims (specs/Terms.antt) and the table of the definitions (specs/Table.antt) are one.
use Prim.Native.Nat.{ℕ, ◌/◌, ◌%◌, ◌≤◌}
use mathlib.Core.Path.{◌≡◌, refl, ap, ap₂, sym, subst, ◌∙◌}
use mathlib.Core.Bool.{true}
use mathlib.Core.List.{List, [], ◌∷◌, ◌++◌, append-nil}
use native.Mathlib.Omega.{arith}
use native.Mathlib.Decide.{ℕ_discrete}
use native.Mathlib.Nat.{not-suc-le-zero}
use lib.ListN.{length}
use Rattle.apdu_stated.specs.Words.{ApduHeader, Case, Instruction, Le1, Lc1Data, Lc1DataLe1, Lc3Data, Lc3DataLe2, Le3}
use Rattle.apdu_stated.specs.Answers.{Says}
use Rattle.apdu_stated.specs.Table.{can_carry}
use Rattle.apdu_stated.specs.Writing.{Parts, parts_of, payload_of, frame_of}
use Rattle.apdu_stated.specs.Terms.{IsPair, OneByteLe, full, plain, TwoByteLe, whole, pair, frame_with, InTable, row1, row2, row3, row4, row5, row7, row8, Carries, shape1, shape2, shape3, shape4, shape5, shape7, shape8}
use Rattle.apdu_stated.proofs.LaidOut.{Carried, carried}
use Rattle.apdu_stated.proofs.Sound.{carry}
use Rattle.apdu_stated.proofs.Frames.{Built, said}

-- ---- the bytes of an Le and of an Lc, both ways
one_le : (le : ℕ) → 1 ≤ le → le ≤ 256 → OneByteLe (le % 256) le
one_le le low high = go (ℕ_discrete le 256)
  where
    go : Dec (le ≡ 256) → OneByteLe (le % 256) le
    go (yes e) = rw e full
    go (no n) =
        let same : le % 256 ≡ le = omega arith in
        rw same (plain low (omega arith))

two_le : (le : ℕ) → 1 ≤ le → le ≤ 65536 → TwoByteLe (le % 65536 / 256) (le % 65536 % 256) le
two_le le low high = go (ℕ_discrete le 65536)
  where
    go : Dec (le ≡ 65536) → TwoByteLe (le % 65536 / 256) (le % 65536 % 256) le
    go (yes e) = rw e whole
    go (no n) =
        let p : IsPair (le % 65536 / 256) (le % 65536 % 256) le = record { high = omega arith; low = omega arith; is = omega arith } in
        pair p low

two_lc : (n : ℕ) → n ≤ 65535 → IsPair (n / 256) (n % 256) n
two_lc n h = record { high = omega arith; low = omega arith; is = omega arith }

record OneLe (b le : ℕ) : Type 0 where
  byte_is : b ≡ le % 256
  low : 1 ≤ le
  high : le ≤ 256

one_back : {b le : ℕ} → OneByteLe b le → OneLe b le
one_back full = record { byte_is = refl; low = omega arith; high = omega arith }
one_back (plain l h) = record { byte_is = omega arith; low = l; high = omega arith }

record TwoLe (a b le : ℕ) : Type 0 where
  high_is : a ≡ le % 65536 / 256
  low_is : b ≡ le % 65536 % 256
  low : 1 ≤ le
  high : le ≤ 65536

two_back : {a b le : ℕ} → TwoByteLe a b le → TwoLe a b le
two_back whole = record { high_is = refl; low_is = refl; low = omega arith; high = omega arith }
two_back (pair p l) = record { high_is = omega arith; low_is = omega arith; low = l; high = omega arith }

lc_high : {hi lo n : ℕ} → IsPair hi lo n → hi ≡ n / 256
lc_high p = omega arith

lc_low : {hi lo n : ℕ} → IsPair hi lo n → lo ≡ n % 256
lc_low p = omega arith

lc_most : {hi lo n : ℕ} → IsPair hi lo n → n ≤ 65535
lc_most p = omega arith

-- ---- the definitions' table is the claims'
module _ (h : ApduHeader) where
  pub entry : (s : Case) (d : List ℕ) (le : ℕ) → Carried s (length d) le → InTable (frame_of (parts_of h s d le)) (said (parts_of h s d le)) d
  unfolding frame_of payload_of
  entry Instruction [] le k = let z : le ≡ 0 = omega arith in rw z row1
  entry Instruction (x ∷ d) le k = absurd (not-suc-le-zero k.lc_high)
  entry Le1 [] le k = row2 (one_le le k.le_low k.le_high)
  entry Le1 (x ∷ d) le k = absurd (not-suc-le-zero k.lc_high)
  entry Lc1Data d le k = let z : le ≡ 0 = omega arith in rw (append-nil d, z) (row3 k.lc_low k.lc_high)
  entry Lc1DataLe1 d le k = row4 k.lc_low k.lc_high (one_le le k.le_low k.le_high)
  entry Lc3Data d le k = let z : le ≡ 0 = omega arith in rw (append-nil d, z) (row5 k.lc_low (two_lc (length d) k.lc_high))
  entry Lc3DataLe2 d le k = row7 (two_lc (length d) k.lc_high) (two_le le k.le_low k.le_high)
  entry Le3 [] le k = row8 (two_le le k.le_low k.le_high)
  entry Le3 (x ∷ d) le k = absurd (not-suc-le-zero k.lc_high)

pub built_entry : (frame : List ℕ) (w : Parts) → Built frame w → InTable frame (said w) w.content
built_entry frame w t =
    subst (λ (f : List ℕ). InTable f (said w) w.content) (sym t.layout)
    (entry w.header w.shape w.content w.le (carried w.shape (length w.content) w.le t.carried))

-- ---- the claims' table is the definitions'
pub record Found (frame : List ℕ) (says : Says) (content : List ℕ) : Type 0 where
  pub parts : Parts
  pub built : Built frame parts
  pub same : said parts ≡ says
  pub holds : parts.content ≡ content

pub entry_built : {frame content : List ℕ} {says : Says} → InTable frame says content → Found frame says content
unfolding frame_of payload_of
entry_built (row1 {h}) = record { parts = parts_of h Instruction [] 0; built = record { layout = refl; carried = carry Instruction 0 0 (omega arith) }; same = refl; holds = refl }
entry_built (row2 {h} {b} {le} o) =
    let i = one_back o in
    record {
      parts = parts_of h Le1 [] le;
      built = record { layout = ap (λ (x : ℕ). frame_with h (x ∷ [])) i.byte_is; carried = carry Le1 0 le (omega arith) };
      same = refl;
      holds = refl;
    }
entry_built (row3 {h} {d} l m) =
    record {
      parts = parts_of h Lc1Data d 0;
      built = record { layout = ap (λ (x : List ℕ). frame_with h (length d ∷ x)) (sym (append-nil d)); carried = carry Lc1Data (length d) 0 (omega arith) };
      same = refl;
      holds = refl;
    }
entry_built (row4 {h} {d} {b} {le} l m o) =
    let i = one_back o in
    record {
      parts = parts_of h Lc1DataLe1 d le;
      built = record { layout = ap (λ (x : ℕ). frame_with h (length d ∷ (d ++ x ∷ []))) i.byte_is; carried = carry Lc1DataLe1 (length d) le (omega arith) };
      same = refl;
      holds = refl;
    }
entry_built (row5 {h} {d} {hi} {lo} l p) =
    record {
      parts = parts_of h Lc3Data d 0;
      built = record {
        layout = ap₂ (λ (x y : ℕ). frame_with h (0 ∷ x ∷ y ∷ d)) (lc_high p) (lc_low p) ∙ ap (λ (x : List ℕ). frame_with h (0 ∷ length d / 256 ∷ length d % 256 ∷ x)) (sym (append-nil d));
        carried = carry Lc3Data (length d) 0 (omega (arith, lc_most p));
      };
      same = refl;
      holds = refl;
    }
entry_built (row7 {h} {d} {hi} {lo} {a} {b} {le} p o) =
    let i = two_back o in
    record {
      parts = parts_of h Lc3DataLe2 d le;
      built = record {
        layout = ap₂ (λ (x y : ℕ). frame_with h (0 ∷ x ∷ y ∷ (d ++ a ∷ b ∷ []))) (lc_high p) (lc_low p)
            ∙ ap₂ (λ (x y : ℕ). frame_with h (0 ∷ length d / 256 ∷ length d % 256 ∷ (d ++ x ∷ y ∷ []))) i.high_is i.low_is;
        carried = carry Lc3DataLe2 (length d) le (omega (arith, lc_most p));
      };
      same = refl;
      holds = refl;
    }
entry_built (row8 {h} {a} {b} {le} o) =
    let i = two_back o in
    record {
      parts = parts_of h Le3 [] le;
      built = record { layout = ap₂ (λ (x y : ℕ). frame_with h (0 ∷ x ∷ y ∷ [])) i.high_is i.low_is; carried = carry Le3 0 le (omega arith) };
      same = refl;
      holds = refl;
    }

-- ---- what a shape can carry
pub can : (s : Case) (n le : ℕ) → Carries s n le → can_carry s n le ≡ true
can _ _ _ shape1 = carry Instruction 0 0 (omega arith)
can _ _ _ (shape2 {le} a b) = carry Le1 0 le (omega arith)
can _ _ _ (shape3 {n} a b) = carry Lc1Data n 0 (omega arith)
can _ _ _ (shape4 {n} {le} a b c d) = carry Lc1DataLe1 n le (omega arith)
can _ _ _ (shape5 {n} a b) = carry Lc3Data n 0 (omega arith)
can _ _ _ (shape7 {n} {le} a b c) = carry Lc3DataLe2 n le (omega arith)
can _ _ _ (shape8 {le} a b) = carry Le3 0 le (omega arith)

pub carried_carries : (s : Case) (n le : ℕ) → Carried s n le → Carries s n le
carried_carries Instruction n le k = let a : n ≡ 0 = omega arith in let b : le ≡ 0 = omega arith in rw (a, b) shape1
carried_carries Le1 n le k = let a : n ≡ 0 = omega arith in rw a (shape2 k.le_low k.le_high)
carried_carries Lc1Data n le k = let b : le ≡ 0 = omega arith in rw b (shape3 k.lc_low k.lc_high)
carried_carries Lc1DataLe1 n le k = shape4 k.lc_low k.lc_high k.le_low k.le_high
carried_carries Lc3Data n le k = let b : le ≡ 0 = omega arith in rw b (shape5 k.lc_low k.lc_high)
carried_carries Lc3DataLe2 n le k = shape7 k.lc_high k.le_low k.le_high
carried_carries Le3 n le k = let a : n ≡ 0 = omega arith in rw a (shape8 k.le_low k.le_high)
