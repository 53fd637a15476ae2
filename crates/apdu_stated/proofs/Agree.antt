-- Two readings, and two writers, that meet the claims of one table are one: said once for both tables.
use Prim.Native.Nat.{ℕ, ◌<◌}
use mathlib.Core.Path.{◌≡◌, refl, ap₂, sym, ◌∙◌}
use mathlib.Core.Bool.{Bool, true, false, true≢false}
use mathlib.Core.List.{List}
use native.Mathlib.Omega.{arith}
use native.Mathlib.Decide.{dec_lt}
use lib.ListN.{length}
use Rattle.outcome.specs.Notation.{Determines2}
use Rattle.outcome.specs.Outcome.{Outcome, R}
use Rattle.octets.specs.Bytes.{AreBytes}
use Rattle.apdu_stated.specs.Answers.{Says}
use Rattle.apdu_stated.specs.Table.{carried_by}
use Rattle.apdu_stated.specs.Reading.{Entry, read_by}
use Rattle.apdu_stated.specs.Writing.{frame_of}
use Rattle.apdu_stated.specs.Claims
use Rattle.apdu_stated.proofs.Ways.{TableOf, CarryOf, FrameWay, under, found, ends, goes_on, frame_way}
use Rattle.apdu_stated.proofs.Readings.{reading_exactly}
use Rattle.apdu_stated.proofs.Writings.{fits_exactly, frame_of_lem}

pub same_reading : (entry : Entry) (read : List ℕ → Outcome Says) → Claims.ReadingExactly (TableOf entry) read → (frame : List ℕ) → AreBytes frame → read frame ≡ read_by entry frame
same_reading entry read exact frame bytes = by (read_by entry frame) (frame_way entry frame) refl
  where
    by : (o : Outcome Says) → FrameWay entry frame o → read_by entry frame ≡ o → read frame ≡ o
    by _ (under h) e = (exact.short frame).1 h
    by _ (ends h f) e = (exact.missing frame (length frame)).1 (((reading_exactly entry).missing frame (length frame)).0 e)
    by _ (goes_on h k f) e = (exact.surplus frame bytes k).1 (((reading_exactly entry).surplus frame bytes k).0 e)
    by _ (found long s lc le f) e = (exact.reads frame bytes _).1 (((reading_exactly entry).reads frame bytes _).0 e)

pub same_writing : (entry : Entry) → Determines2 (Claims.WriteExactly (CarryOf entry) (TableOf entry))
same_writing entry f g p q w old = go (carried_by entry w.shape (length w.content) w.le) refl (dec_lt (length old) (length (frame_of w)))
  where
    both : (f w old).0 ≡ (g w old).0 → (f w old).1 ≡ (g w old).1 → f w old ≡ g w old
    both a b = ap₂ (λ (x : Outcome ℕ) (y : List ℕ). (x, y)) a b

    refusing : (n : ℕ) → (f w old).0 ≡ R n → (g w old).0 ≡ R n → f w old ≡ g w old
    refusing n a b = both (a ∙ sym b) (p.refused w old n a ∙ sym (q.refused w old n b))

    go : (b : Bool) → carried_by entry w.shape (length w.content) w.le ≡ b → Dec (length old < length (frame_of w)) → f w old ≡ g w old
    go false c d =
        let never : CarryOf entry w.shape (length w.content) w.le → ⊥ = λ k. true≢false (sym ((fits_exactly entry w.shape (length w.content) w.le).1 k) ∙ c) in
        refusing 5 ((p.r5 w old).1 never) ((q.r5 w old).1 never)
    go true c (yes h) = refusing 2 ((p.r2 w old).1 (frame_of w, frame_of_lem entry w c, h)) ((q.r2 w old).1 (frame_of w, frame_of_lem entry w c, h))
    go true c (no n) = p.writes w old (frame_of w) (frame_of_lem entry w c) (omega arith) ∙ sym (q.writes w old (frame_of w) (frame_of_lem entry w c) (omega arith))
