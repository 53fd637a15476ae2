-- Words that the claims of the crates above are written with.
use Rattle.std.specs.Prelude.{◌≤◌, ◌≡◌}
use Rattle.outcome.specs.Outcome.{StatusWord, Outcome, Word}
pub use Rattle.outcome.specs.Outcome.{HasStatus}

-- 02, E1: of whatever answers with status words: "A 6700 should say" a kind (1, 2 or 3) and a place; and no other status word has a
-- pair.
pub record PairsExactly {X A : Type 0} (answer : X → Outcome A) : Type 0 where
  pub paired : (x : X) (w : StatusWord) → answer x ≡ Word w → w.number ≡ 0x6700 → (1 ≤ w.kind) × (w.kind ≤ 3)
  pub no_other : (x : X) (w : StatusWord) → answer x ≡ Word w → (w.number ≡ 0x6700 → ⊥) → w ≡ record { number = w.number; kind = 0; place = 0 }
