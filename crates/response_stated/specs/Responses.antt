-- Document 02, E2: "the ISO 7816-4 response form, body then two status bytes, written and read". Covered: both, and their R2.
use Rattle.std.specs.Prelude.{◌+◌, ◌-◌, ◌++◌}
use Rattle.response_stated.specs.Words.{ℕ, List, ltb, when◌then◌else◌, length, take, Outcome, R, Word, Gives, bytes2, pair_at, laid, Response}

-- "body then two status bytes", SW1 then SW2
abbrev pub response_of : (body : List ℕ) (status : ℕ) → List ℕ
response_of body status = body ++ bytes2 status

-- ours: R2 when the buffer is short, else the response at its front; the answer is the response's length
unfoldable pub write_response_of : (body : List ℕ) (room : ℕ) → Outcome ℕ
write_response_of body room =
    when ltb room (length body + 2) then R 2
    else Gives (length body + 2)

-- ours: the rest of the buffer stays; 01: "An R refusal changes no buffer"
abbrev pub response_laid : Outcome ℕ → (response old : List ℕ) → List ℕ
response_laid (R n) response old = old
response_laid (Word s) response old = old
response_laid (Gives n) response old = laid response old

-- 02, E2: "Reading a response under two bytes gives R2"
unfoldable pub read_response_of : List ℕ → Outcome Response
read_response_of response =
    when ltb (length response) 2 then R 2
    else Gives (record { length = length response - 2; status = pair_at response (length response - 2) })

-- ours: the body as a part of the caller's slice, all but the last two bytes; none where there are not two
abbrev pub response_body_of : List ℕ → List ℕ
response_body_of response = take (length response - 2) response
