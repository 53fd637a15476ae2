-- Each shape with an Le, as the code meets it: where its Le field stands in the payload, and over how many bytes.
use Prim.Native.Nat.{ℕ, ◌+◌, ◌-◌}
use mathlib.Core.Path.{◌≡◌, refl}
use mathlib.Core.List.{List}
use native.Mathlib.Omega.{arith}
use lib.ListN.{length, take, drop}
use Rattle.octets.specs.Bytes.{byte, pair_at}
use Rattle.apdu_stated.specs.Reading.{short_of, after_data, extended_of, lengths_of}
use Rattle.apdu_stated.specs.declared.Entry.{Entry}
use Rattle.apdu_stated.specs.declared.Lengths.TheVariants.{Found}
use Rattle.apdu_stated.specs.declared.Case.TheVariants.{Le1, Lc1DataLe1, Lc3DataLe2, Le3}
use Rattle.apdu_stated.proofs.Cases
use Rattle.apdu_le.specs.Field.{said_of}
use Rattle.apdu_le.proofs.Laws.{one_at, two_at, three_at}

module _ (entry : Entry) (p : List ℕ) (le : ℕ) where
  pub le1 : length p ≡ 1 → le ≡ said_of (take (1 - 0) (drop 0 p)) → Found Le1 0 le ≡ lengths_of entry p
  le1 h e = Cases.lengths_le1 entry p le h (one_at p 0 1 le (omega arith) e refl)

  pub le3 : length p ≡ 3 → le ≡ said_of (take (3 - 0) (drop 0 p)) → Found Le3 0 le ≡ extended_of entry p
  le3 h e = Cases.extended_le3 entry p (pair_at p 1) refl le h (three_at p 0 3 le (omega arith) e refl)

pub after_le2 : (p : List ℕ) (le lc : ℕ) → length p ≡ 5 + lc → le ≡ said_of (take (5 + lc - (3 + lc)) (drop (3 + lc) p)) → Found Lc3DataLe2 lc le ≡ after_data p lc
after_le2 p le lc h e =
    let next : 4 + lc ≡ 3 + lc + 1 = omega arith in
    Cases.after_le2 p lc le (pair_at p (3 + lc)) h (rw next) (two_at p (3 + lc) (5 + lc) le (omega arith) e (omega arith))

pub short_le : (p : List ℕ) (le lc n : ℕ) → n ≡ lc → lc ≡ byte p 0 → length p ≡ 2 + n → le ≡ said_of (take (2 + n - (1 + n)) (drop (1 + n) p)) → Found Lc1DataLe1 lc le ≡ short_of p
short_le p le lc n is_n is_lc h e = Cases.short_le p n lc is_n is_lc le h (one_at p (1 + n) (2 + n) le (omega arith) e (omega arith))
