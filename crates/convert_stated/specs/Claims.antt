-- What is promised of the converter: open this file first. Each claim takes the program as its argument; the definitions (`is_old`, `convert_of` of
-- Converting.antt, `converted_of` of Answers.antt) meet it by proofs/Theorems.antt; by proofs/Only.antt nothing else meets `OldExactly` and `SaidExactly`, nor,
-- on frames of bytes, `ConvertExactly`; and the programs of Wrong.antt do not by proofs/Refuted.antt. `ConvertedIsRead`, `ChangesExactly` and
-- `ConvertsToItself` stand beside `ConvertExactly`: the first and the last speak of results alone, and one that refuses everything meets them. `before` is what the buffer held. Words: Terms.antt, and
-- apdu_stated's `InTable`, `OldForm`.
use Rattle.std.specs.Prelude.{◌↔◌, ◌+◌, ◌≤◌, ◌<◌, ◌≡◌, ◌++◌}
use Rattle.convert_stated.specs.Words.{ℕ, Ok, Err, Refused, Status, Bool, true, List, length, take, drop, AtMostOne, StatusWord, Outcome, R, Word, Gives, word_of, refusal_no, ApduStatusCode, Refusal, AreBytes, ApduHeader, Says, read_of, strict_of, data_of, OldForm, Converted}
use Rattle.convert_stated.specs.Terms.{Old, Holds, Becomes, EmptySeven}
use Rattle.convert_stated.specs.Promises.{OldFormTold, Convert}
use Rattle.convert_stated.specs.Answers.{converted_of}

-- ---- which frames are of the old form

-- By its own condition: of numbers whatever, 00 behind the header and a length of 8 + Lc; of bytes, the row that the table has lost. Rejects a test that
-- wants data (`wants_data`), and one that takes every frame whose surplus is its last byte (`by_surplus`). Bites at 00 03 00 00 | 00 00 00 05, and at
-- 00 03 00 00 | 00 00 01 AA 00 00 00: ten bytes and Lc, surplus one byte before the end.
pub record OldExactly (is_old : List ℕ → Bool) : Type 0 where
  pub by_length : (frame : List ℕ) → (is_old frame ≡ true) ↔ OldForm frame
  pub by_row : (frame : List ℕ) → AreBytes frame → (is_old frame ≡ true) ↔ ((h : ApduHeader) × (d : List ℕ) × (le : ℕ) × Old frame h d le)

-- ---- what a frame becomes

-- Every answer, each exactly when, and the buffer: given room, the result at its front and the rest as it was; "R2 when the buffer is shorter than the
-- result"; "the reader's status for a frame in no shape", with its pair, where the frame is not of the old form either; a refusal and a status word leave the
-- buffer. Rejects Le 0 carried over as 0 (`le_zero_as_zero`), the old form handed back (`old_form_kept`) or refused (`old_form_refused`), which bite at 00 03 00 00 |
-- 00 00 01 AA 00; an Lc of 0 written as shape 7 (`lc_zero_as_shape7`) and room asked for by the frame's length (`room_of_the_frame`), at 00 03 00 00 | 00 00 00 05; a
-- frame of shape 7 rewritten (`shape7_rewritten`), at 00 03 00 00 | 00 00 00 00 05; a converter that goes by the surplus (`converts_by_surplus`), at ten bytes and
-- Lc; a frame in no shape handed back (`no_shape_copied`), the status without its pair (`pair_dropped`), R2 before it (`room_first`) and a status that writes
-- (`status_writes`), at 00 03 00 00 | 00 01; R2 a byte early or late (`r2_one_byte_early`, `r2_one_byte_late`), a rest that is cleared (`clears_the_rest`) and a refusal
-- that writes (`refusal_writes`), at the header alone.
pub record ConvertExactly (convert : List ℕ → List ℕ → Outcome ℕ × List ℕ) : Type 0 where
  pub gives : (frame before : List ℕ) (n : ℕ) → AreBytes frame
      → ((convert frame before).0 ≡ Gives n) ↔ ((result : List ℕ) × Becomes frame result × (length result ≡ n) × (n ≤ length before))
  pub converts : (frame before result : List ℕ) → AreBytes frame → Becomes frame result → length result ≤ length before
      → convert frame before ≡ (Gives (length result), result ++ drop (length result) before)
  pub r2 : (frame before : List ℕ) → AreBytes frame
      → ((convert frame before).0 ≡ R 2) ↔ ((result : List ℕ) × Becomes frame result × (length before < length result))
  pub status : (frame before : List ℕ) (w : StatusWord) → AreBytes frame
      → ((convert frame before).0 ≡ Word w) ↔ ((read_of frame ≡ Word w) × ((h : ApduHeader) (d : List ℕ) (le : ℕ) → Old frame h d le → ⊥))
  pub refused : (frame before : List ℕ) (n : ℕ) → (convert frame before).0 ≡ R n → (convert frame before).1 ≡ before
  pub left : (frame before : List ℕ) (w : StatusWord) → (convert frame before).0 ≡ Word w → (convert frame before).1 ≡ before

-- Ours: the converter's result is read with the same header, data and Le, always by the ordinary reading, by the strict one exactly where the frame was
-- not shape 7 with Lc 0. What is converted is of one of document 01's eight shapes, and the result is read with what the frame held. Rejects `le_zero_as_zero` and
-- `old_form_kept`, at 00 03 00 00 | 00 00 01 AA 00; `no_shape_copied`, at 00 03 00 00 | 00 01; `converts_by_surplus`, at ten bytes and Lc: its result is read, and its
-- frame is of no shape; strictly `lc_zero_as_shape7`, at 00 03 00 00 | 00 00 00 05, and
-- `shape7_rewritten`, at 00 03 00 00 | 00 00 00 00 05.
pub record ConvertedIsRead (convert : List ℕ → List ℕ → Outcome ℕ × List ℕ) : Type 0 where
  pub is_read : (frame before : List ℕ) (n : ℕ) → AreBytes frame → (convert frame before).0 ≡ Gives n
      → let result = take n (convert frame before).1 in
      (h : ApduHeader) × (d : List ℕ) × (le : ℕ) × Holds frame h d le
      × ((says : Says) × (read_of result ≡ Gives says) × (says.header ≡ h) × (data_of result says ≡ d) × (says.le ≡ le))
  pub strictly : (frame before : List ℕ) (n : ℕ) → AreBytes frame → (convert frame before).0 ≡ Gives n
      → let result = take n (convert frame before).1 in
      ((says : Says) × (strict_of result ≡ Gives says) × (read_of result ≡ Gives says)) ↔ (EmptySeven frame → ⊥)

-- Ours, which frames change: those of the old form, and, given a byte more than the frame, each of them is converted. Rejects a frame of
-- shape 7 rewritten (`shape7_rewritten`), the old form handed back (`old_form_kept`), and refused (`old_form_refused`). Bites at 00 03 00 00 | 00 00 00 00 05, and at
-- 00 03 00 00 | 00 00 00 05.
pub record ChangesExactly (convert : List ℕ → List ℕ → Outcome ℕ × List ℕ) : Type 0 where
  pub exactly : (frame before : List ℕ) (n : ℕ) → AreBytes frame → (convert frame before).0 ≡ Gives n
      → (take n (convert frame before).1 ≡ frame → ⊥) ↔ OldForm frame
  pub converted : (frame before : List ℕ) → AreBytes frame → OldForm frame → 1 + length frame ≤ length before
      → (n : ℕ) × ((convert frame before).0 ≡ Gives n)

-- Ours: a converted frame converts to itself, into any buffer with the room. Rejects one that writes an Lc of 0 as shape 7 and such a shape 7
-- as shape 8 (`two_steps`), and R2 a byte early (`r2_one_byte_early`). Bites at 00 03 00 00 | 00 00 00 05, and at the header alone.
abbrev pub ConvertsToItself : (List ℕ → List ℕ → Outcome ℕ × List ℕ) → Type 0
ConvertsToItself convert =
    (frame before again : List ℕ) (n : ℕ) → AreBytes frame → (convert frame before).0 ≡ Gives n → n ≤ length again
    → let result = take n (convert frame before).1 in
    convert result again ≡ (Gives n, result ++ drop n again)

-- ---- what the code holds

-- What an answer says, in the documents' numbers. Rejects a status word without its pair (`pair_unsaid`). Bites at 6700.
pub record SaidExactly (said : Converted → Outcome ℕ) : Type 0 where
  pub frame : (n : ℕ) → said (Ok n) ≡ Gives n
  pub refused : (r : Refusal) → said (Err (Refused r)) ≡ R (refusal_no r)
  pub status : (s : ApduStatusCode) → said (Err (Status s)) ≡ Word (word_of s)

-- Two answers that say the same are one. Rejects `pair_unsaid`. Bites at two places of surplus bytes.
abbrev pub AnswersOneToOne : (Converted → Outcome ℕ) → Type 0
AnswersOneToOne said = (a b : Converted) → said a ≡ said b → a ≡ b

-- ---- the contracts

-- Whatever meets a contract meets the claims on it. A contract that names other definitions fails it, with code to match.
pub record ContractsAsClaimed : Type 0 where
  pub is_old : (f : List ℕ → Bool) → ((frame : List ℕ) → OldFormTold frame (f frame)) → OldExactly f
  pub convert : (f : List ℕ → List ℕ → Converted × List ℕ) → ((frame before : List ℕ) → Convert frame before (f frame before).0 (f frame before).1)
      → ConvertExactly (λ (frame before : List ℕ). (converted_of (f frame before).0, (f frame before).1))

-- Two results that satisfy a contract are equal; of `convert`, the answer and the buffer.
pub record ResultsDetermined : Type 0 where
  pub is_old : (frame : List ℕ) → AtMostOne (OldFormTold frame)
  pub convert : (frame before : List ℕ) → AtMostOne (λ (o : Converted × List ℕ). Convert frame before o.0 o.1)
