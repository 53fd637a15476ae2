-- What other crates cite: what tells outcomes apart, and the tables' ways back.
use Prim.Native.Nat.{ℕ}
use mathlib.Core.Path.{◌≡◌, sym, ap, ◌∙◌}
use native.Mathlib.Omega.{arith}
use Rattle.outcome.specs.Outcome.{StatusWord, Outcome, R, Word, SW, Gives}
pub use Rattle.outcome.proofs.Numbers.{one_to_one, status_of, status_back, status_one_to_one, refusal_of, refusal_back, refusal_one_to_one}

-- ---- an outcome's three kinds are apart, and each says its number or value
module _ {A : Type 0} where
  pub word_same : (a b : StatusWord) → ◌≡◌ {A = Outcome A} (Word a) (Word b) → a ≡ b
  word_same a b e = cc

  pub sw_same : (a b : ℕ) → ◌≡◌ {A = Outcome A} (SW a) (SW b) → a ≡ b
  sw_same a b e = ap (λ (w : StatusWord). w.number) (word_same _ _ e)

  pub gives_same : (a b : A) → Gives a ≡ Gives b → a ≡ b
  gives_same a b e = cc

  pub word_gives : (w : StatusWord) (a : A) → Word w ≡ Gives a → ⊥
  word_gives w a e = let z : ◌≡◌ {A = ℕ} 0 1 = cc in omega arith

  pub r_gives : (n : ℕ) (a : A) → R n ≡ Gives a → ⊥
  r_gives n a e = let z : ◌≡◌ {A = ℕ} 0 1 = cc in omega arith

  pub r_word : (m : ℕ) (w : StatusWord) → ◌≡◌ {A = Outcome A} (R m) (Word w) → ⊥
  r_word m w e = let z : ◌≡◌ {A = ℕ} 0 1 = cc in omega arith

-- two that are the same third are equal
pub both_are : {A : Type 0} {c : A} (a b : A) → a ≡ c → b ≡ c → a ≡ b
both_are a b p q = p ∙ sym q
