-- What a history is made of: calls, each in its role, and what came of them.
use Rattle.u2f_up_stated.specs.Words.{ℕ}

-- What a call is to the record, with the side that it names: "every decision and direct check names its side", touch and ask none. It
-- follows from the call's own inputs, never from the record.
pub data Role : Type 0 where
  Touching : Role  -- a touch
  Checking : (side : ℕ) → Role  -- a call that reaches the touch check: a direct check, or a decision that comes so far
  Asking : Role  -- whether a prompt is live
  Settling : (side : ℕ) → Role  -- a decision that is answered without the touch check
  TooShort : (side : ℕ) → Role  -- a decision whose buffer is too short, or whose lent body is shorter than its remainder's end, R2

pub record Call : Type 0 where
  pub role : Role
  pub moment : ℕ

-- The side of a call. What names none has 0 here, which is never R8, and no touch is spent or prompt opened by it.
abbrev pub side_of : Role → ℕ
side_of Touching = 0
side_of (Checking s) = s
side_of Asking = 0
side_of (Settling s) = s
side_of (TooShort s) = s

-- What came of a call, as its history tells it.
pub data Came : Type 0 where
  RefusedBy : ℕ → Came  -- an R refusal
  TouchAccepted : Came  -- a touch
  TouchIgnored : Came
  TouchFound : Came  -- a call that reaches the touch check: a touch was found, and is spent
  NoTouchFound : Came  -- none of its side was
  PromptStands : Came  -- an ask
  NoPromptStands : Came
  AnsweredBefore : Came  -- a decision that is answered without the touch check

-- A call and what came of it.
pub record Event : Type 0 where
  pub call : Call
  pub came : Came
