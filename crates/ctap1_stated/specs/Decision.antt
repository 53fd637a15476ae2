-- Document 01, 'The decision', with the record: R6, R8 (document 02, E7) and R1, then along the path, with the touch check and its 6985 said once; and
-- 'Refusal numbers' as far as they speak of the decision; then what the reply buffer and the lent block hold.
use Rattle.std.specs.Prelude.{◌∷◌}
use Rattle.ctap1_stated.specs.Words.{ℕ, Bool, false, not, List, [], Presence, Order}
use Rattle.ctap1_stated.specs.Words.{when◌then◌else◌, StatusWord, Outcome, R, Word, Gives, plain_word, Inputs, DecisionGives, Body, Ordered, Part, DecisionResult, DecisionAlone, DecisionLeft, head_of, handed_of}
use Rattle.ctap1_stated.specs.Path.{PathEnd, Internal, WrongData, Orders, DecisionPath, NoRoom, Ends, SixBytes, Fetches, Signs, Touch, path_of}
use Rattle.octets.specs.Bytes.{laid}
use Rattle.u2f_up_stated.specs.Moments.{settle_of, checked_of}
use Rattle.u2f_up_stated.specs.declared.Finding.{Finding}
use Rattle.signing_stated.specs.Orders.{blank_order}
use Rattle.response_stated.specs.declared.Sent.{Sent}

-- ---- results

-- "An R refusal changes no buffer and no record", and takes no counter; what stands for the order is the blank one
abbrev pub refusal_result : ℕ → Presence → DecisionResult
refusal_result n kept = record { answer = R n; presence = kept; order = blank_order; taken = false }

-- a status word, with the record as the checks so far left it
abbrev pub word_result : StatusWord → Presence → DecisionResult
word_result s p = record { answer = Word s; presence = p; order = blank_order; taken = false }

abbrev pub status_result : ℕ → Presence → DecisionResult
status_result n p = word_result (plain_word n) p

abbrev pub body_result : ℕ → Presence → DecisionResult
body_result n p = record { answer = Gives (Body n); presence = p; order = blank_order; taken = false }

abbrev pub part_result : Sent → Presence → DecisionResult
part_result sent p = record { answer = Gives (Part sent.length sent.remainder); presence = p; order = blank_order; taken = false }

abbrev pub order_result : Order → Presence → Bool → DecisionResult
order_result o p taken = record { answer = Gives Ordered; presence = p; order = o; taken = taken }

-- ---- along the path

abbrev pub ended : PathEnd → Presence → DecisionResult
ended Internal p = status_result 0x6f00 p
ended WrongData p = status_result 0x6a80 p
ended (Orders o taken) p = order_result o p taken

-- "touch check, 6985", the only place
abbrev pub touch_checked : Finding → PathEnd → DecisionResult
touch_checked f e =
    when not f.yes then status_result 0x6985 f.presence
    else ended e f.presence

-- with any touch check, so that the one before there were sides can stand here, too (specs/OneSide.antt)
abbrev pub along_by : (Presence → Finding) → DecisionPath → (kept settled : Presence) → DecisionResult
along_by check NoRoom kept settled = refusal_result 2 kept
along_by check (Ends s) kept settled = word_result s settled
along_by check SixBytes kept settled = body_result 6 settled
along_by check (Fetches sent) kept settled = part_result sent settled
along_by check (Signs e) kept settled = ended e settled
along_by check (Touch e) kept settled = touch_checked (check settled) e

abbrev pub along : DecisionPath → (kept settled : Presence) (side t : ℕ) → DecisionResult
along path kept settled s t = along_by (λ q. checked_of q s t) path kept settled

-- 1. "R6, R1.", and R8 between them (02, E7), whatever the frame is. (Settling gives no status word.)
abbrev pub on_settled_by : (Presence → Finding) → Presence → DecisionPath → Outcome Presence → DecisionResult
on_settled_by check p path (R n) = refusal_result n p
on_settled_by check p path (Word s) = word_result s p
on_settled_by check p path (Gives settled) = along_by check path p settled

abbrev pub on_moment : Presence → (side t : ℕ) → DecisionPath → Outcome Presence → DecisionResult
on_moment p s t path o = on_settled_by (λ q. checked_of q s t) p path o

-- the decision on the record p at moment t
unfoldable pub decision_of : Presence → ℕ → Inputs → DecisionResult
decision_of p t a = on_moment p a.side t (path_of a) (settle_of p a.side t)

-- ---- the reply buffer

-- 4. "the body is the six bytes 55 32 46 5F 56 32, status 9000"
abbrev pub version_bytes : List ℕ
version_bytes = 0x55 ∷ 0x32 ∷ 0x46 ∷ 0x5F ∷ 0x56 ∷ 0x32 ∷ []

-- "A 9000 body fills the front of the buffer; the rest stays." "An order and a status word other than 9000 change no reply
-- buffer." The only body that a decision gives is Version's. Ours: a part is written to a buffer of its own (specs/Session.antt), never to the
-- uncut body's
abbrev pub reply_after : Outcome DecisionGives → List ℕ → List ℕ
reply_after (R n) old = old
reply_after (Word s) old = old
reply_after (Gives (Body n)) old = laid version_bytes old
reply_after (Gives Ordered) old = old
reply_after (Gives (Part n after)) old = old

abbrev pub reply_left : DecisionResult → List ℕ → List ℕ
reply_left r old = reply_after r.answer old

-- ---- the block

-- 01: "the bytes to sign in a block of 385 bytes"; every answer but an order leaves the lent block as it was
abbrev pub block_after : Outcome DecisionGives → (bytes old : List ℕ) → List ℕ
block_after (R n) bytes old = old
block_after (Word s) bytes old = old
block_after (Gives (Body n)) bytes old = old
block_after (Gives Ordered) bytes old = bytes
block_after (Gives (Part n after)) bytes old = old

abbrev pub block_left : DecisionResult → List ℕ → List ℕ
block_left r old = block_after r.answer r.order.bytes old

-- a result as it is handed back, with the record and the lent block afterwards
abbrev pub left_of : DecisionResult → (old : List ℕ) → DecisionLeft
left_of r old = record { said = handed_of r; block = block_left r old }

-- an answer that comes with no order and takes no counter, by itself
abbrev pub blank_alone : Outcome DecisionGives → DecisionAlone
blank_alone o = record { answer = o; head = head_of blank_order; taken = false }

-- the last step by itself, and the lent block after it
abbrev pub end_alone : PathEnd → DecisionAlone
end_alone Internal = blank_alone (Word (plain_word 0x6f00))
end_alone WrongData = blank_alone (Word (plain_word 0x6a80))
end_alone (Orders o taken) = record { answer = Gives Ordered; head = head_of o; taken = taken }

abbrev pub end_block : PathEnd → (old : List ℕ) → List ℕ
end_block Internal old = old
end_block WrongData old = old
end_block (Orders o taken) old = o.bytes
