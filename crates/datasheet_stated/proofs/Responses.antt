-- What bounds a response: its frame's limit in shapes 1 to 4, the longest body in any; and the two frames that reach it.
use Prim.Native.Nat.{ℕ, ◌+◌, ◌<◌, ◌≤◌}
use mathlib.Core.Path.{◌≡◌, refl, sym, ap, subst, ◌∙◌}
use mathlib.Core.List.{List, [], ◌∷◌}
use native.Mathlib.Omega.{arith}
use Rattle.outcome.specs.Outcome.{Gives}
use Rattle.outcome.proofs.Laws.{gives_same}
use Rattle.octets.specs.Bytes.{AreBytes}
use Rattle.apdu_stated.specs.declared.ApduHeader.{ApduHeader}
use Rattle.apdu_stated.specs.declared.Entry.TheVariants.{Ordinary}
use Rattle.apdu_stated.specs.Answers.{Says}
use Rattle.apdu_stated.specs.Reading.{read_of}
use Rattle.apdu_stated.specs.Terms.{OneByteLe, full, plain, frame_with, saying, InTable, row1, row2, row3, row4, row5, row7, row8}
use Rattle.apdu_stated.specs.Terms as Apdu
use Rattle.apdu_stated.proofs.Laws.{read_exactly, reads_entry}
use Rattle.session_stated.specs.Terms.{TakesAtATime, given, absent, CanTake, whole, cut, extended, no_shape}

one_byte : {b le : ℕ} → OneByteLe b le → le ≤ 256
one_byte full = omega arith
one_byte (plain low high) = omega arith

short_le : {frame d : List ℕ} {said : Says} → InTable frame said d → said.shape ≤ 4 → said.le ≤ 256
short_le row1 h = omega arith
short_le (row2 o) h = one_byte o
short_le (row3 a b) h = omega arith
short_le (row4 a b o) h = one_byte o
short_le (row5 a p) h = absurd (omega arith)
short_le (row7 p t) h = absurd (omega arith)
short_le (row8 t) h = absurd (omega arith)

at_a_time : (said : Says) (limit : ℕ) → said.le ≤ 256 → TakesAtATime said limit → limit ≤ 256
at_a_time said _ h (given short some) = h
at_a_time said _ h (absent short none) = omega arith

pub short_most : (frame : List ℕ) (said : Says) (longest m : ℕ) → AreBytes frame → read_of frame ≡ Gives said → said.shape ≤ 4 → CanTake frame longest m → m ≤ 258
short_most frame said longest m bytes e short takes = go m takes
  where
    le : said.le ≤ 256
    le = short_le ((read_exactly frame bytes said).0 e).1 short

    same : (other : Says) → read_of frame ≡ Gives other → said ≡ other
    same other x = gives_same _ _ (sym e ∙ x)

    limited : (other : Says) (limit : ℕ) → read_of frame ≡ Gives other → TakesAtATime other limit → limit ≤ 256
    limited other limit x t = at_a_time other limit (subst (λ (s : Says). s.le ≤ 256) (same other x) le) t

    go : (m : ℕ) → CanTake frame longest m → m ≤ 258
    go _ (whole other limit x t h) = let l = limited other limit x t in omega arith
    go _ (cut other limit x t h) = let l = limited other limit x t in omega arith
    go _ (extended other x h) = let s = ap (λ (y : Says). y.shape) (same other x) in absurd (omega arith)
    go _ (no_shape none) = omega arith

pub any_most : (frame : List ℕ) (longest m : ℕ) → CanTake frame longest m → m ≤ longest + 2
any_most frame longest _ (whole said limit e t h) = omega arith
any_most frame longest _ (cut said limit e t h) = omega arith
any_most frame longest _ (extended said e h) = omega arith
any_most frame longest _ (no_shape none) = omega arith

-- Version, without Le and in shape 8
abbrev asks : ApduHeader
asks = record { cla = 0x00; ins = 0x03; p1 = 0x00; p2 = 0x00 }

abbrev pub without_le : List ℕ
without_le = frame_with asks []

abbrev pub says_no_le : Says
says_no_le = saying asks 1 4 0 0

pub reads_no_le : read_of without_le ≡ Gives says_no_le
reads_no_le = reads_entry Ordinary without_le [] says_no_le row1

abbrev pub extended_le : List ℕ
extended_le = frame_with asks (0x00 ∷ 0x00 ∷ 0x00 ∷ [])

abbrev says_extended : Says
says_extended = saying asks 8 4 0 65536

reads_extended : read_of extended_le ≡ Gives says_extended
reads_extended = reads_entry Ordinary extended_le [] says_extended (row8 Apdu.whole)

pub takes_no_le : (n : ℕ) → 256 < n → CanTake without_le n 258
takes_no_le n h = cut says_no_le 256 reads_no_le (absent (omega arith) refl) h

pub takes_all : (n : ℕ) → CanTake extended_le n (n + 2)
takes_all n = extended says_extended reads_extended (omega arith)
