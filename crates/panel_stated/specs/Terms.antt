-- Words that the claims use.
use Rattle.std.specs.Prelude.{◌≤◌, ◌<◌, ◌≡◌}
pub use Rattle.panel_stated.specs.Exports.{AfterMaking, AfterStep, AfterWriting, AfterDeciding, AfterPart}
use Rattle.panel_stated.specs.Numbers.{decided_no, fault_no, place_no}
use Rattle.panel_stated.specs.Exports.{body_length, order_after}
use Rattle.panel_stated.specs.Words.{ℕ, Outcome, R, Word, Gives, last_refusal, DecisionSaid, DecisionResult, Says, Command, Register, Authenticate}

-- a refusal's number is one of the refusals', and a status word's, where it is not what was asked for, is above them and not 9000
abbrev pub IsNumbered : {A : Type 0} → Outcome A → Type 0
IsNumbered (R n) = (1 ≤ n) × (n ≤ last_refusal)
IsNumbered (Word s) = (0x6000 ≤ s.number) × (s.number < 0x9000)
IsNumbered (Gives a) = Unit {0}

-- the numbers of two records, or of two sessions, are the same, each of them
abbrev pub SameNumbers : {A : Type 0} → (a b : A) → Type 0
SameNumbers a b = a ≡ b

-- a number that is no shape's. Ours: outside 1..8; 02, E13: number 6 is retired
pub data NoShape (n : ℕ) : Type 0 where
  nought : n ≡ 0 → NoShape n
  retired : n ≡ 6 → NoShape n
  above : 9 ≤ n → NoShape n

-- a decision's numbers report this result: by `DecisionNumbers` and `OrderNumbersExactly`
pub record Reports (said : DecisionSaid) (r : DecisionResult) : Type 0 where
  pub answer : said.answer ≡ decided_no r.answer
  pub fault : said.fault ≡ fault_no r.answer
  pub place : said.place ≡ place_no r.answer
  pub taken : said.taken ≡ r.taken
  pub long : said.length ≡ body_length r.answer
  pub order : said.order ≡ order_after r.answer r.order

-- a command that carries data, and what its frame says
pub data HasData : Command → Says → Type 0 where
  register : (s : Says) → HasData (Register s) s
  authenticate : (p1 : ℕ) (s : Says) → HasData (Authenticate p1 s) s
