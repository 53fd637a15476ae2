-- The ways through an Le field's definitions, as the code meets them: the answer, from the facts that the tests showed.
use Prim.Native.Nat.{ℕ, ◌+◌, ◌*◌, ◌%◌, ◌<◌}
use mathlib.Core.Path.{◌≡◌, ap, ◌∙◌}
use mathlib.Core.List.{List, [], ◌∷◌}
use native.Mathlib.Omega.{arith}
use native.Mathlib.Decide.{ℕ_discrete}
use borrow.Author.Tests.{ne_eqb, le-leb}
use lib.Dec.{leb, eqb}
use lib.ListN.{length}
use mir.Syntax.{w8, w16}
use mir.Val.{Fits}
use Rattle.octets.specs.Bytes.{laid, byte, bytes2}
use Rattle.apdu_stated.specs.Table.{le_most, le_read}
use Rattle.apdu_le.specs.Field.{said_of, can_say, put_of}

-- ---- what is read
module _ (field : List ℕ) where
  pub read_none : length field ≡ 0 → 0 ≡ said_of field
  read_none z = rw z

  pub read_one : (n le : ℕ) → length field ≡ 1 → n ≡ 0 * 256 + byte field 0 → le ≡ le_read (length field) n → le ≡ said_of field
  read_one n le o is_n e =
      let plain : n ≡ byte field 0 = omega arith in
      e ∙ rw (o, plain)

  pub read_two : (n le : ℕ) → length field ≡ 2 → n ≡ byte field 0 * 256 + byte field 1 → le ≡ le_read (length field) n → le ≡ said_of field
  read_two n le t is_n e = e ∙ rw (t, is_n)

  pub read_more : (n le : ℕ) → (length field ≡ 0 → ⊥) → (length field ≡ 1 → ⊥) → (length field ≡ 2 → ⊥) → n ≡ byte field 1 * 256 + byte field 2
      → le ≡ le_read (length field) n → le ≡ said_of field
  read_more n le n0 n1 n2 is_n e = e ∙ rw (ne_eqb (length field) 0 n0, ne_eqb (length field) 1 n1, ne_eqb (length field) 2 n2, is_n)

-- ---- what is written
-- the most of a field that is there is 256 or 65536
most_by : (P : ℕ → Type 0) (width : ℕ) → 0 < width → P 256 → P 65536 → P (le_most width)
most_by P width some one more = go (ℕ_discrete width 1)
  where
    go : Dec (width ≡ 1) → P (le_most width)
    go (yes o) = rw o one
    go (no n) = rw (ne_eqb width 0 (omega arith), ne_eqb width 1 n) more

module _ (width le m : ℕ) (some : 0 < width) (is_m : m ≡ le_most width) where
  pub most_some : 0 < m
  most_some = rw is_m (most_by (λ (k : ℕ). 0 < k) width some (omega arith) (omega arith))

  pub rest_small : Fits w16 (le % m)
  rest_small = rw is_m (most_by (λ (k : ℕ). Fits w16 (le % k)) width some (omega arith) (omega arith))

  pub rest_of : le % m ≡ le % le_most width
  rest_of = rw is_m

pub put_none : (width le : ℕ) (old : List ℕ) → width ≡ 0 → old ≡ put_of width le old
put_none width le old z = rw z

module _ (width le n : ℕ) (old : List ℕ) (is_n : n ≡ le % le_most width) where
  pub byte_small : width ≡ 1 → Fits w8 n
  byte_small o = let small : n ≡ le % 256 = rw o at is_n in omega arith

  module _ (new : List ℕ) where
    pub put_one : width ≡ 1 → new ≡ laid (n ∷ []) old → new ≡ put_of width le old
    put_one o e = e ∙ rw (is_n, o)

    pub put_two : width ≡ 2 → new ≡ laid (bytes2 n) old → new ≡ put_of width le old
    put_two t e =
        let is : n ≡ le % 65536 = rw t at is_n in
        e ∙ ap (λ (k : ℕ). laid (bytes2 k) old) is ∙ rw t

    pub put_more : (width ≡ 0 → ⊥) → (width ≡ 1 → ⊥) → (width ≡ 2 → ⊥) → new ≡ laid (0 ∷ bytes2 n) old → new ≡ put_of width le old
    put_more n0 n1 n2 e = e ∙ rw (is_n, ne_eqb width 0 n0, ne_eqb width 1 n1, ne_eqb width 2 n2)

-- ---- what a field can say
module _ (width le : ℕ) where
  pub fits_zero : le ≡ 0 → eqb width 0 ≡ can_say width le
  fits_zero z = go (ℕ_discrete width 0)
    where
      go : Dec (width ≡ 0) → eqb width 0 ≡ can_say width le
      go (yes w) = rw (w, z)
      go (no n) = rw (ne_eqb width 0 n, z)

  pub fits_some : (m : ℕ) → (le ≡ 0 → ⊥) → m ≡ le_most width → leb le m ≡ can_say width le
  fits_some m nz is_m = go (ℕ_discrete width 0)
    where
      go : Dec (width ≡ 0) → leb le m ≡ can_say width le
      go (yes w) = ap (leb le) is_m ∙ rw (w, le-leb 0 le (omega arith))
      go (no n) = ap (leb le) is_m ∙ rw (ne_eqb width 0 n, le-leb 1 le (omega arith))
