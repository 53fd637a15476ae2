-- What a host fetches that asks again and again: the parts of a sequence of calls, joined, and what remains after them. Of any sender, on
-- any body. Calls run from left to right; each takes the remainder that the one before handed back.
use Rattle.std.specs.Prelude.{Bool, false, ◌⊎◌, ◌+◌, ◌*◌, ◌<◌, ◌≤◌, ◌≡◌, ◌∷◌, ◌++◌}
use Rattle.response_stated.specs.Words.{ℕ, List, [], eqb, when◌then◌else◌, length, take, drop, Outcome, R, Word, Gives, Remainder, Response, Sent}
use Rattle.response_stated.specs.Responses.{read_response_of, response_body_of}
use Rattle.response_stated.specs.Terms.{Sender}

-- a call: how much it takes, and what the buffer for part and status holds before it
pub record Fetch : Type 0 where
  pub limit : ℕ
  pub buffer : List ℕ

-- what the host gets of a call: the response at the buffer's front; nothing of a refusal
abbrev pub got : Outcome Sent × List ℕ → List ℕ
got (R n, after) = []
got (Word s, after) = []
got (Gives sent, after) = take sent.length after

-- the remainder after a call: "any R refusal keeps it"
abbrev pub left : Remainder → Outcome Sent → Remainder
left r (R n) = r
left r (Word s) = r
left r (Gives sent) = sent.remainder

-- whether what the host got carries 9000
abbrev pub is_done : Outcome Response → Bool
is_done (R n) = false
is_done (Word s) = false
is_done (Gives response) = eqb response.status 0x9000

-- the bytes of the body that are still to be fetched
abbrev pub remaining : List ℕ → Remainder → List ℕ
remaining body r = take r.count (drop r.place body)

module _ (next : Sender) (body : List ℕ) where
  -- one call
  abbrev pub called : Remainder → Fetch → Outcome Sent × List ℕ
  called r a = next body r a.limit a.buffer

  -- the bodies of all responses, joined
  abbrev pub joined : Remainder → List Fetch → List ℕ
  joined r [] = []
  joined r (a ∷ fetches) = response_body_of (got (called r a)) ++ joined (left r (called r a).0) fetches

  -- what remains after all calls
  abbrev pub after : Remainder → List Fetch → Remainder
  after r [] = r
  after r (a ∷ fetches) = after (left r (called r a).0) fetches

  -- how many calls there are up to and with the first that carries 9000
  abbrev pub calls_until_done : Remainder → List Fetch → ℕ
  calls_until_done r [] = 0
  calls_until_done r (a ∷ fetches) =
      when is_done (read_response_of (got (called r a))) then 1
      else 1 + calls_until_done (left r (called r a).0) fetches

-- `Each P fetches`: each of the calls is so
pub data Each (P : Fetch → Type 0) : List Fetch → Type 0 where
  none : Each P []
  also : {a : Fetch} {fetches : List Fetch} → P a → Each P fetches → Each P (a ∷ fetches)

-- the call's buffer has room for all of n bytes and a status, or for as much as the call takes
abbrev pub HasRoom : (n : ℕ) → Fetch → Type 0
HasRoom n a = (n + 2 ≤ length a.buffer) ⊎ ((1 ≤ a.limit) × (a.limit + 2 ≤ length a.buffer))

-- the call takes L bytes at a time, and has room for them
abbrev pub Takes : (L : ℕ) → Fetch → Type 0
Takes L a = (a.limit ≡ L) × (L + 2 ≤ length a.buffer)

-- `RoundsUp n L k`: k is n / L rounded up, and 1 where n is 0
pub data RoundsUp (n L : ℕ) : ℕ → Type 0 where
  one : n ≡ 0 → RoundsUp n L 1
  up : (k : ℕ) → k * L < n → n ≤ k * L + L → RoundsUp n L (1 + k)
